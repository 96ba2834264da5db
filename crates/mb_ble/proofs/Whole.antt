-- The steps of a reader of packets.
use Rattle.std.proofs.Common.{◌≡◌, ℕ, zero, suc, ◌+◌, ◌-◌, ◌*◌, ◌<◌, ◌≤◌, Bool, true, false, Some, None, List, [], ◌∷◌}
use Rattle.std.proofs.Common.{◌++◌, length, map, refl, ap, ap₂, sym, subst, ◌∙◌, arith, append_assoc, append-nil, inl}
use Rattle.std.specs.Prelude.{if◌then◌else◌, ◌==◌, not, take, drop}
use Rattle.std.proofs.lemmas.Bool.Decides.{nat_tests}
use Rattle.mb_message.specs.declared.note.NoteKind.TheVariants.{EmptyPacket}
use Rattle.mb_ble.proofs.Base.{nothing-behind}
use Rattle.mb_ble.specs.Stands.{passed}
use Rattle.mb_clock.specs.Clock.{clock_of}
use Rattle.mb_din.specs.Reader.{Stands}
use Rattle.mb_frames.specs.Reading.{is_partial, is_at_end, from, room_of, behind_length, length_ended, Place, Between}
use Rattle.mb_frames.specs.Reading.{High, Within}
use Rattle.mb_stream.specs.ReaderLaw.{Goes}
use Rattle.mb_stream.proofs.ReaderLemmas as generic
use Rattle.mb_stream.specs.Reading.{Part, part_of, so_far}
use Rattle.mb_stream.specs.Told.{Told, Notes, Known}
use Rattle.mb_message.specs.Front.{IsFront}
use Rattle.mb_frames.specs.Counting.{counted_parts, rest_parts}
use Rattle.mb_frames.proofs.Steps.{parts-counted}
use Rattle.mb_ble.specs.Packets.{Token, Begins, Ends, byte_token, tokens, clock, payload, all_tokens}
use Rattle.mb_ble.specs.Reading.{noted, onto, unit_note, ble_known, whole_from, ble_whole}
use Rattle.mb_ble.specs.News.{token_news, news_from}
use Rattle.mb_ble.specs.Content.{empty_told}
use Rattle.mb_ble.specs.Stands.{is_heady, token_behind, last, NoStamp, StampIs, Holds, Read, Reads, Counts, whole_at}
use Rattle.mb_ble.specs.Stands.{BleStands, BleTells, BleAllTold}
use Rattle.mb_ble.specs.declared.content.Content.{Content}
use Rattle.mb_ble.specs.declared.content.Head.{Head}
use Rattle.mb_ble.specs.declared.content.Head.TheVariants as head
use Rattle.mb_ble.specs.declared.position.Position.{Position}
use Rattle.mb_ble.proofs.Law.{ble_known-news}
use Rattle.mb_ble.proofs.Fronts.{front-off, front-under}
use Rattle.mb_ble.proofs.Small.{nothing}
use Rattle.mb_ble.specs.State.{is_between, Linked, Fit, half, ble_offset}

false≢true : false ≡ true → ⊥
false≢true e = cc

pub news-append : (xs ys before : List Token) → news_from before (xs ++ ys) ≡ news_from before xs ++
    news_from (onto before xs) ys
news-append [] ys before = refl
news-append (t ∷ xs) ys before = ap (λ z. token_news before t ++ z) (news-append xs ys (t ∷ before)) ∙
    sym (append_assoc (token_news before t) (news_from (t ∷ before) xs) (news_from (onto (t ∷ before) xs) ys))

pub onto-append : (xs ys before : List Token) → onto before (xs ++ ys) ≡ onto (onto before xs) ys
onto-append [] ys before = refl
onto-append (t ∷ xs) ys before = onto-append xs ys (t ∷ before)

-- what is known of the bytes taken and of the input
pub known-split : (now : Position) (bytes more : List ℕ) (told : List Known) (st : BleStands now bytes told) →
    ble_known (bytes ++ more) ≡ news_from [] st.taken ++ news_from st.before (tokens now.content.offset (last st.before)
    (from now.frames more))
known-split now bytes more told st =
    ble_known-news (bytes ++ more) ∙ ap (news_from []) (st.tokens_are more) ∙
    news-append st.taken (tokens now.content.offset (last st.before) (from now.frames more)) []
    ∙ ap (λ b. news_from [] st.taken ++ news_from b (tokens now.content.offset (last st.before) (from now.frames more)))
    (sym st.before_is)

pub ahead-front : (now : Position) (bytes input : List ℕ) (told : List Known) (st : BleStands now bytes told) →
    IsFront told (ble_known (bytes ++ input)) → IsFront st.ahead
    (news_from st.before (tokens now.content.offset (last st.before) (from now.frames input)))
ahead-front now bytes input told st f =
    front-off (news_from [] st.taken) st.ahead (news_from st.before (tokens now.content.offset (last st.before)
    (from now.frames input)))
    (subst (λ z. IsFront z (news_from [] st.taken ++ news_from st.before (tokens now.content.offset (last st.before)
    (from now.frames input)))) st.told_is (subst (IsFront told) (known-split now bytes input told st) f))

-- a step: these bytes and tokens were taken
pub record Steps (was now : Position) (input left : List ℕ) (seen : List Part) (before : List Token)
    (ahead : List Known) : Type 0 where
  pub new : List Token
  pub taken : List ℕ
  pub front : input ≡ taken ++ left
  pub parts_are : (more : List ℕ) → tokens was.content.offset (last before) (from was.frames (taken ++ more)) ≡ new ++
      tokens now.content.offset (last (onto before new)) (from now.frames more)
  pub then_ahead : List Known
  pub holds : Holds now.content (onto before new) then_ahead
  pub fresh : List Known
  pub seen_is : map part_of fresh ≡ seen
  pub told_is : ahead ++ fresh ≡ news_from before new ++ then_ahead
  pub still : IsFront then_ahead (news_from (onto before new) (tokens now.content.offset (last (onto before new))
      (from now.frames left)))
  pub offset : ble_offset now ≡ ble_offset was + length taken
  pub whole_is : (more : List ℕ) → whole_at was.frames (taken ++ more) ≡ whole_at now.frames more

pub length-append : (xs ys : List ℕ) → length (xs ++ ys) ≡ length xs + length ys
length-append [] ys = zero_plus (length ys)
  where
    zero_plus : (n : ℕ) → n ≡ length {A = ℕ} [] + n
    zero_plus n = omega arith
length-append (x ∷ xs) ys = omega (arith, length-append xs ys)

pub tells-step : (was now : Position) (input left : List ℕ) (seen : List Part) →
    ((before : List Token) (ahead : List Known) → Holds was.content before ahead →
    IsFront ahead (news_from before (tokens was.content.offset (last before) (from was.frames input))) →
    Steps was now input left seen before ahead) → BleTells was now input left seen
tells-step was now input left seen f = record {
  goes = λ bytes told st front.
      by bytes told st (f st.before st.ahead st.holds (ahead-front was bytes input told st front));
}
  where
    by : (bytes : List ℕ) (told : List Known) (st : BleStands was bytes told) → Steps was now input left seen st.before
        st.ahead → Goes part_of ble_known (BleStands now) input left seen bytes told
    by bytes told st s =
        let nows : List Token = st.taken ++ s.new in
        let told_now : told ++ s.fresh ≡ news_from [] nows ++ s.then_ahead =
        ap (λ z. z ++ s.fresh) st.told_is ∙ append_assoc (news_from [] st.taken) st.ahead s.fresh ∙
        ap (λ z. news_from [] st.taken ++ z) s.told_is ∙
        sym (append_assoc (news_from [] st.taken) (news_from st.before s.new) s.then_ahead)
        ∙ ap (λ z. z ++ s.then_ahead) (ap (λ b. news_from [] st.taken ++ news_from b s.new) st.before_is ∙
        sym (news-append st.taken s.new [])) in
        let stands : BleStands now (bytes ++ s.taken) (told ++ s.fresh) = record {
          taken = nows;
          before = onto st.before s.new;
          before_is = ap (λ z. onto z s.new) st.before_is ∙ sym (onto-append st.taken s.new []);
          tokens_are = λ more.
              ap all_tokens (append_assoc bytes s.taken more) ∙ st.tokens_are (s.taken ++ more) ∙
              ap (λ z. st.taken ++ z) (s.parts_are more)
              ∙ sym (append_assoc st.taken s.new (tokens now.content.offset (last (onto st.before s.new))
              (from now.frames more)));
          ahead = s.then_ahead;
          told_is = told_now;
          holds = s.holds;
          offset = s.offset ∙ ap (λ z. z + length s.taken) st.offset ∙ sym (length-append bytes s.taken);
          whole_is = λ more. ap ble_whole (append_assoc bytes s.taken more) ∙ st.whole_is (s.taken ++ more) ∙
              s.whole_is more;
        } in
        let rest : List Known = news_from (onto st.before s.new) (tokens now.content.offset
        (last (onto st.before s.new)) (from now.frames left)) in
        let known : ble_known (bytes ++ input) ≡ news_from [] nows ++ rest = ap (λ z. ble_known (bytes ++ z)) s.front ∙
        ap ble_known (sym (append_assoc bytes s.taken left)) ∙ known-split now (bytes ++ s.taken) left (told ++
        s.fresh) stands in
        record {
          taken = s.taken;
          front = s.front;
          fresh = s.fresh;
          answer_is = s.seen_is;
          stands = stands;
          still = subst (λ z. IsFront z (ble_known (bytes ++ input))) (sym told_now)
              (subst (IsFront (news_from [] nows ++ s.then_ahead)) (sym known) (front-under (news_from [] nows)
              s.then_ahead rest s.still));
        }

pub tells-refl : (u : Position) (input : List ℕ) → BleTells u u input input []
tells-refl u input = record { goes = generic.tells-refl part_of ble_known (BleStands u) input }

pub no_parts : (ks : List Known) → map part_of ks ≡ [] → ks ≡ []
no_parts [] e = refl
no_parts (k ∷ ks) e = absurd (cons_nil (part_of k) (map part_of ks) e)
  where
    cons_nil : (t : Part) (ts : List Part) → t ∷ ts ≡ [] → ⊥
    cons_nil t ts e = cc

-- a quiet step, and then another
pub tells-trans : (u v w : Position) (input mid left : List ℕ) (answer : List Part) → BleTells u v input mid [] →
    BleTells v w mid left answer → BleTells u w input left answer
tells-trans u v w input mid left answer a b = record {
  goes = generic.tells-trans part_of ble_known (BleStands u) (BleStands v) (BleStands w) input mid left [] answer a.goes
      b.goes;
}

-- where nothing was answered, nothing is left of the input and no content's end is to be told, all is told
pub all_told : (was now : Position) (input left : List ℕ) → BleTells was now input left [] → left ≡ [] →
    is_at_end now.frames ≡ false → BleAllTold was input
all_told was now input left t e z bytes told st front = by (t.goes bytes told st front)
  where
    nothing-more : (p : Place) (o : ℕ) (l : Token) → is_at_end p ≡ false → tokens o l (from p []) ≡ []
    nothing-more Between o l z = refl
    nothing-more (High h) o l z = refl
    nothing-more (Within zero) o l z = absurd (false≢true (sym z))
    nothing-more (Within (suc n)) o l z = refl

    by : Goes part_of ble_known (BleStands now) input left [] bytes told → told ≡ ble_known (bytes ++ input)
    by g =
        let none : told ++ g.fresh ≡ told = ap (λ z. told ++ z) (no_parts g.fresh g.answer_is) ∙ append-nil told in
        let all : input ≡ g.taken = g.front ∙ ap (λ z. g.taken ++ z) e ∙ append-nil g.taken in
        let b : List Token = g.stands.before in
        let toks : tokens now.content.offset (last b) (from now.frames []) ≡ [] =
        nothing-more now.frames now.content.offset (last b) z in
        let known : ble_known (bytes ++ input) ≡ news_from [] g.stands.taken =
        ap (λ z. ble_known (bytes ++ z)) all ∙ ap ble_known (sym (append-nil (bytes ++ g.taken))) ∙
        known-split now (bytes ++ g.taken) [] (told ++ g.fresh) g.stands ∙ ap (λ z. news_from [] g.stands.taken ++
        news_from b z) toks ∙ append-nil (news_from [] g.stands.taken) in
        let told_is : told ≡ news_from [] g.stands.taken ++ g.stands.ahead = sym none ∙ g.stands.told_is in
        let ahead : g.stands.ahead ≡ [] = nothing-behind (news_from [] g.stands.taken) g.stands.ahead g.still.0
        (sym known ∙ g.still.1 ∙ ap (λ z. z ++ g.still.0) g.stands.told_is) in
        told_is ∙ ap (λ z. news_from [] g.stands.taken ++ z) ahead ∙ append-nil (news_from [] g.stands.taken) ∙
        sym known

-- bytes of a content pass
pub whole-pass : (xs : List ℕ) (r : ℕ) (more : List ℕ) → length xs ≤ r → whole_from r (xs ++ more) ≡
    whole_from (r - length xs) more
whole-pass [] r more le = ap (λ n. whole_from n more) (zero-off r)
  where
    zero-off : (r : ℕ) → r ≡ r - length {A = ℕ} []
    zero-off r = omega arith
whole-pass (x ∷ xs) zero more le = absurd (omega arith)
whole-pass (x ∷ xs) (suc r) more le = whole-pass xs r more (omega arith) ∙
    ap (λ n. whole_from n more) (one-off r (length xs))
  where
    one-off : (r n : ℕ) → r - n ≡ suc r - suc n
    one-off r n = omega arith

-- the content's bytes
pub take-drop : (n : ℕ) (xs : List ℕ) → xs ≡ take n xs ++ drop n xs
take-drop zero xs = refl
take-drop (suc n) [] = refl
take-drop (suc n) (x ∷ xs) = ap (λ z. x ∷ z) (take-drop n xs)

pub drop-front : (xs ys : List ℕ) → drop (length xs) (xs ++ ys) ≡ ys
drop-front [] ys = refl
drop-front (x ∷ xs) ys = drop-front xs ys

pub length-take : (n : ℕ) (xs : List ℕ) → n ≤ length xs → length (take n xs) ≡ n
length-take zero xs le = refl
length-take (suc n) [] le = absurd (omega arith)
length-take (suc n) (x ∷ xs) le = ap suc (length-take n xs (omega arith))

pub content_tells : (was now : Position) (input piece left final : List ℕ) (len used : ℕ) (seen : List Told) →
    0 < room_of was.frames → len ≤ room_of was.frames → len ≤ length input → piece ≡ take len input →
    Reads was.content now.content piece left seen → Counts was.content now.content piece left →
    used ≡ len - length left → now.frames ≡ passed was.frames used → final ≡ drop used input →
    BleTells was now input final (map (λ t. record { moment = now.content.clock.moment; told = t }) seen)
content_tells was now input piece left final len used seen pos fits short p reads counts u moves fin =
    tells-step was now input final (map (λ t. record { moment = now.content.clock.moment; told = t }) seen)
    (λ before ahead holds front. by was.frames refl pos fits moves before ahead holds front)
  where
    beyond : List ℕ
    beyond = drop len input

    cut : input ≡ piece ++ beyond
    cut = take-drop len input ∙ ap (λ z. z ++ beyond) (sym p)

    size : length piece ≡ len
    size = ap length p ∙ length-take len input short

    goes : (r : ℕ) (frames : Place) → was.frames ≡ frames → frames ≡ Within r → len ≤ r →
        now.frames ≡ Within (r - used) → (before : List Token) (ahead : List Known) → Read was.content now.content piece
        left seen before ahead r beyond →
        Steps was now input final (map (λ t. record { moment = now.content.clock.moment; told = t }) seen) before ahead
    goes r frames e f room_fits g before ahead rd =
        let a : length piece ≡ length rd.taken + length left = ap length rd.front ∙ length-append rd.taken left in
        let b : length piece ≡ length counts.taken + length left = ap length counts.front ∙
        length-append counts.taken left in
        let n : used ≡ length rd.taken = omega (arith, u, a, size) in
        let whole : input ≡ rd.taken ++ (left ++ beyond) = cut ∙ ap (λ z. z ++ beyond) rd.front ∙
        append_assoc rd.taken left beyond in
        let final_is : final ≡ left ++ beyond = fin ∙ ap₂ drop n whole ∙ drop-front rd.taken (left ++ beyond) in
        let place_was : was.frames ≡ Within r = e ∙ f in
        let place_now : now.frames ≡ Within (r - length rd.taken) = g ∙ ap (λ z. Within (r - z)) n in
        record {
          new = rd.new;
          taken = rd.taken;
          front = whole ∙ ap (λ z. rd.taken ++ z) (sym final_is);
          parts_are = λ more.
              ap (λ q. tokens was.content.offset (last before) (from q (rd.taken ++ more))) place_was ∙ rd.parts more ∙
              ap (λ q. rd.new ++ tokens now.content.offset (last (onto before rd.new)) (from q more))
              (sym place_now);
          then_ahead = rd.ahead;
          holds = rd.holds;
          fresh = rd.fresh;
          seen_is = rd.seen_is;
          told_is = rd.told_is;
          still = subst (λ q. IsFront rd.ahead (news_from (onto before rd.new) (tokens now.content.offset
              (last (onto before rd.new)) (from q final)))) (sym place_now)
              (subst (λ z. IsFront rd.ahead (news_from (onto before rd.new) (tokens now.content.offset
              (last (onto before rd.new)) (rest_parts (r - length rd.taken) z)))) (sym final_is) rd.still);
          offset = ap (λ q. now.content.offset + half q) place_now ∙ sums was.content.offset now.content.offset
              (length counts.taken) (length rd.taken) (length left) (length piece) counts.offset a b ∙
              ap (λ q. was.content.offset + half q + length rd.taken) (sym place_was);
          whole_is = λ more. ap (λ q. whole_at q (rd.taken ++ more)) place_was ∙
              whole-pass rd.taken r more (omega (arith, a, size, room_fits)) ∙
              ap (λ q. whole_at q more) (sym place_now);
        }
      where
        sums : (o o' c t l p : ℕ) → o' ≡ o + c → p ≡ t + l → p ≡ c + l → o' + 0 ≡ o + 0 + t
        sums o o' c t l p x y z = omega (arith, x, y, z)

    by : (frames : Place) → was.frames ≡ frames → 0 < room_of frames → len ≤ room_of frames →
        now.frames ≡ passed frames used → (before : List Token) (ahead : List Known) → Holds was.content before ahead →
        IsFront ahead (news_from before (tokens was.content.offset (last before) (from was.frames input))) →
        Steps was now input final (map (λ t. record { moment = now.content.clock.moment; told = t }) seen) before ahead
    by Between e pos fits moves before ahead holds front = absurd (omega (arith, pos))
    by (High h) e pos fits moves before ahead holds front = absurd (omega (arith, pos))
    by (Within r) e pos fits moves before ahead holds front =
        goes r (Within r) e refl fits moves before ahead (reads.reads before ahead r beyond holds (omega (
          arith,
          size,
          fits,
        ))
        (subst (λ z. IsFront ahead (news_from before (tokens was.content.offset (last before) (rest_parts r z)))) cut
        (subst (λ q. IsFront ahead (news_from before (tokens was.content.offset (last before) (from q input)))) e
        front)))

pub content_fit : (was now : Position) (piece left : List ℕ) (used : ℕ) → 0 < room_of was.frames → Fit was →
    Counts was.content now.content piece left → now.frames ≡ passed was.frames used → Fit now
content_fit was now piece left used pos fit counts moves = record {
  calm = counts.calm fit.calm;
  linked =
      by was.frames pos fit.linked moves;
}
  where
    by : (frames : Place) → 0 < room_of frames → Linked frames was.content → now.frames ≡ passed frames used →
        Linked now.frames now.content
    by Between pos l m = absurd (omega (arith, pos))
    by (High h) pos l m = absurd (omega (arith, pos))
    by (Within r) pos l m = subst (λ q. Linked q now.content) (sym m) (
      counts.inside l.0,
      omega (arith, l.1, counts.offset),
    )

-- nothing taken, nothing told
pub starts : (now : Position) → now.frames ≡ Between → now.content.offset ≡ 0 → now.content.head ≡ head.Between →
    now.content.clock ≡ clock_of [] → now.content.running ≡ None → Stands now.content.din [] [] →
    now.content.din.offset ≡ 0 → BleStands now [] []
starts now f o h c r d l = record {
  taken = [];
  before = [];
  before_is = refl;
  tokens_are = λ more. ap (tokens 0 (Ends 0)) (parts-counted more) ∙ ap (λ n. tokens n (Ends 0) (counted_parts more))
      (sym o) ∙ ap (λ q. tokens now.content.offset (Ends 0) (from q more)) (sym f);
  ahead = [];
  told_is = refl;
  holds = record {
    clock_is = c;
    running_is = r;
    runs = λ s e. absurd (none_some s e);
    kind = λ at b. ap (λ k. byte_token at (token_behind k) b) (sym h);
    stamp = [];
    early = [];
    told_is = refl;
    stamp_is = subst (λ k. StampIs k now.content.offset [] []) (sym h) (refl, λ low rank ka. refl);
    din = d;
    are_early = tt;
    here = inl refl;
    low = omega (arith, l);
    rested = λ e. refl;
  };
  offset = ap (λ q. now.content.offset + half q) f ∙ ap (λ n. n + 0) o;
  whole_is = λ more. ap (λ q. whole_at q more) (sym f);
}
  where
    none_some : (s : ℕ) → None ≡ Some s → ⊥
    none_some s e = cc

-- the first byte of a length, and the second
between_quiet : (was : Content) (before : List Token) (ahead : List Known) → is_between was.head ≡ true →
    (h : Holds was before ahead) → (h.early ≡ []) × (ahead ≡ [])
between_quiet was before ahead z h = by was.head refl z
  where
    by : (k : Head) → was.head ≡ k → is_between k ≡ true → (h.early ≡ []) × (ahead ≡ [])
    by head.Between e z =
        let a : h.early ≡ [] = h.rested (ap is_heady e) in
        let s : NoStamp before h.stamp = subst (λ k. StampIs k was.offset before h.stamp) e h.stamp_is in
        (a, h.told_is ∙ ap (λ y. y ++ h.early) s.0 ∙ a)
    by head.Header e z = absurd (false≢true z)
    by head.Skip e z = absurd (false≢true z)
    by head.Inside e z = absurd (false≢true z)
    by (head.Stamped at) e z = absurd (false≢true z)
    by head.Spent e z = absurd (false≢true z)

pub length_first : (was now : Position) (input left : List ℕ) (b : ℕ) → input ≡ b ∷ left → now.content ≡ was.content →
    now.frames ≡ behind_length was.frames b → length_ended was.frames b ≡ None → is_at_end was.frames ≡ false →
    room_of was.frames ≡ 0 → BleTells was now input left []
length_first was now input left b e same place none end between = tells-step was now input left []
    (λ before ahead holds front. by was.frames refl place none end between before ahead holds front)
  where
    some_none : (n : ℕ) → Some n ≡ None → ⊥
    some_none n e = cc

    by : (f : Place) → was.frames ≡ f → now.frames ≡ behind_length f b → length_ended f b ≡ None → is_at_end f ≡ false →
        room_of f ≡ 0 → (before : List Token) (ahead : List Known) → Holds was.content before ahead →
        IsFront ahead (news_from before (tokens was.content.offset (last before) (from was.frames input))) →
        Steps was now input left [] before ahead
    by (High h) i m n z r before ahead holds front = absurd (some_none (256 * h + b) n)
    by (Within k) i m n z r before ahead holds front = absurd (at_end k z r)
      where
        at_end : (k : ℕ) → (k == 0) ≡ false → k ≡ 0 → ⊥
        at_end k z r = grind (arith, nat_tests)
    by Between i m n z r before ahead holds front = record {
      new = [];
      taken = b ∷ [];
      front = e;
      parts_are = λ more.
          ap (λ q. tokens was.content.offset (last before) (from q (b ∷ more))) i ∙
          ap (λ c. tokens c.offset (last before) (counted_parts (b ∷ more))) (sym same) ∙
          ap (λ q. tokens now.content.offset (last before) (from q more)) (sym m);
      then_ahead = ahead;
      holds = subst (λ c. Holds c before ahead) (sym same) holds;
      fresh = [];
      seen_is = refl;
      told_is = append-nil ahead;
      still = subst (λ q. IsFront ahead (news_from before (tokens now.content.offset (last before) (from q left))))
          (sym m) (subst (λ c. IsFront ahead (news_from before (tokens c.offset (last before)
          (counted_parts (b ∷ left))))) (sym same)
          (subst (λ q. IsFront ahead (news_from before (tokens was.content.offset (last before) (from q (b ∷ left))))) i
          (subst (λ y. IsFront ahead (news_from before (tokens was.content.offset (last before)
          (from was.frames y)))) e front)));
      whole_is = λ more. ap (λ q. whole_at q (b ∷ more)) i ∙ ap (λ q. whole_at q more) (sym m);
      offset = ap₂ (λ c q. c.offset + half q) same m ∙ one-more was.content.offset ∙
          ap (λ q. was.content.offset + half q + length (b ∷ [])) (sym i);
    }
      where
        one-more : (o : ℕ) → o + 1 ≡ o + 0 + length (b ∷ [])
        one-more o = omega arith

pub length_second : (was now : Position) (input left : List ℕ) (b len moment : ℕ) (seen : List Part) →
    input ≡ b ∷ left → Fit was → now.content ≡ (let c : Content = was.content in record c {
      offset = c.offset + 2;
      head = head.Header;
      running = None;
    }) → now.frames ≡ behind_length was.frames b → length_ended was.frames b ≡
    Some len →
    moment ≡ was.content.clock.moment → seen ≡ map (λ t. record { moment = moment; told = t })
    (empty_told was.content.offset len) → BleTells was now input left seen
length_second was now input left b len moment seen e fit same place known mom told = tells-step was now input left seen
    (λ before ahead holds front. by was.frames refl place known fit.linked before ahead holds)
  where
    none_some : (n : ℕ) → None ≡ Some n → ⊥
    none_some n e = cc

    some_some : (m n : ℕ) → Some m ≡ Some n → m ≡ n
    some_some m n e = cc

    by : (f : Place) → was.frames ≡ f → now.frames ≡ behind_length f b → length_ended f b ≡ Some len →
        Linked f was.content → (before : List Token) (ahead : List Known) → Holds was.content before ahead →
        Steps was now input left seen before ahead
    by Between i m n l before ahead holds = absurd (none_some len n)
    by (Within k) i m n l before ahead holds = absurd (none_some len n)
    by (High h) i m n l before ahead holds =
        let o : ℕ = was.content.offset in
        let k : 256 * h + b ≡ len = some_some (256 * h + b) len n in
        let m' : now.frames ≡ Within len = m ∙ ap Within k in
        let t : Token = Begins o len in
        let q = between_quiet was.content before ahead l holds in
        let goes : Content = record {
          offset = was.content.offset + 2;
          head = head.Header;
          clock = was.content.clock;
          running = None;
          din = was.content.din;
        } in
        let h2 : Holds goes (t ∷ before) [] = record {
          clock_is = holds.clock_is;
          running_is = refl;
          runs = λ s e. absurd (none_some s e);
          kind = λ at x. refl;
          stamp = [];
          early = [];
          told_is = refl;
          stamp_is = (refl, λ low rank ka. refl);
          din = subst (λ z. Stands was.content.din (payload before) (so_far (payload before) ++ z)) q.0 holds.din;
          are_early = tt;
          here = inl refl;
          low = omega (arith, holds.low);
          rested = λ e. refl;
        } in
        let note : List Known = unit_note before t in
        record {
          new = t ∷ [];
          taken = b ∷ [];
          front = e;
          parts_are = λ more.
              ap (λ p. tokens o (last before) (from p (b ∷ more))) i ∙
              ap (λ n. Begins o n ∷ tokens (o + 2) (Begins o n) (rest_parts n more)) k
              ∙ ap (λ c. t ∷ tokens c.offset t (rest_parts len more)) (sym same) ∙
              ap (λ p. t ∷ tokens now.content.offset t (from p more)) (sym m');
          then_ahead = [];
          holds = subst (λ c. Holds c (t ∷ before) []) (sym same) h2;
          fresh = note;
          seen_is = notes (len == 0) (mom ∙ ap (λ c. c.moment) holds.clock_is) ∙ sym told;
          told_is = ap (λ z. z ++ note) q.1 ∙ sym (append-nil note) ∙ sym (append-nil (note ++ [])) ∙
              sym (append-nil ((note ++ []) ++ []));
          still = nothing _;
          whole_is = λ more. ap (λ q. whole_at q (b ∷ more)) i ∙ ap (λ n. whole_from n more) k ∙
              ap (λ q. whole_at q more) (sym m');
          offset = ap₂ (λ c p. c.offset + half p) same m' ∙ two-more o ∙ ap (λ p. o + half p + length (b ∷ [])) (sym i);
        }
      where
        notes : (c : Bool) → moment ≡ (clock before).moment →
            map part_of (if c then noted 4 (clock before).moment (was.content.offset + 1) was.content.offset
            EmptyPacket ∷ [] else []) ≡ map (λ t. record { moment = moment; told = t })
            (if c then Notes was.content.offset EmptyPacket ∷ [] else [])
        notes true e = ap (λ m. record { moment = m; told = Notes was.content.offset EmptyPacket } ∷ []) (sym e)
        notes false e = refl

        two-more : (o : ℕ) → o + 2 + 0 ≡ o + 1 + length (b ∷ [])
        two-more o = omega arith

-- whether the bytes taken stop inside a frame
partial-by : (p : Place) (r : Bool) → r ≡ is_partial p → r ≡ not (whole_at p [])
partial-by Between r e = e
partial-by (High h) r e = e
partial-by (Within zero) r e = e
partial-by (Within (suc n)) r e = e ∙ ap not (not_zero n)
  where
    not_zero : (n : ℕ) → (suc n == 0) ≡ false
    not_zero n = grind (arith, nat_tests)

pub partial_law : (now : Position) (r : Bool) → r ≡ is_partial now.frames → (bytes : List ℕ) (told : List Known) →
    BleStands now bytes told → r ≡ not (ble_whole bytes)
partial_law now r e bytes told st = partial-by now.frames r e ∙ ap not (sym (st.whole_is []) ∙
    ap ble_whole (append-nil bytes))
