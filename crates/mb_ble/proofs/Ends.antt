-- A content's end, and the recording's.
use Rattle.std.proofs.Common.{◌≡◌, ℕ, zero, suc, ◌+◌, ◌-◌, ◌*◌, ◌<◌, ◌≤◌, Bool, true, false, Option, Some, None, List}
use Rattle.std.proofs.Common.{[], ◌∷◌, ◌++◌, length, map, refl, ap, ap₂, sym, subst, ◌∙◌, arith, append-nil, inl, inr}
use Rattle.std.specs.Prelude.{if◌then◌else◌, ◌==◌, ◌⊎◌}
use Rattle.std.proofs.lemmas.Bool.Decides.{nat_tests}
use Rattle.mb_message.specs.declared.note.NoteKind.TheVariants.{LoneStamp, EmptyPacket, Truncated}
use Rattle.mb_message.specs.Signs.{AbortSign}
use Rattle.std.specs.Prelude.{IfSome}
use Rattle.mb_ble.proofs.Base.{cancel}
use Rattle.mb_din.specs.Reader.{Stands}
use Rattle.mb_frames.proofs.Steps.{rest_parts-zero}
use Rattle.mb_frames.specs.Reading.{is_at_end, from, Place, Between, High, Within}
use Rattle.mb_message.specs.Bytes.{is_channel}
use Rattle.mb_stream.specs.Order.{Each}
use Rattle.mb_stream.proofs.OrderLemmas.{Each-append}
use Rattle.mb_stream.specs.Groups.{Group, is_sysex, last_of}
use Rattle.mb_stream.specs.Payload.{Entry}
use Rattle.mb_stream.specs.Reading.{Part, part_of, so_far}
use Rattle.mb_stream.specs.Told.{Told, Marks, Notes, Known, begun_at, at_end}
use Rattle.mb_ble.specs.State.{slack, is_between, Linked, Fit, half}
use Rattle.mb_message.specs.Front.{IsFront}
use Rattle.mb_frames.specs.Counting.{counted_parts, rest_parts}
use Rattle.mb_ble.specs.Packets.{Token, Begins, Header, Unheaded, Skipped, Stamp, Status, Data, Ends, byte_token}
use Rattle.mb_ble.specs.Packets.{tokens, clock, payload, all_tokens}
use Rattle.mb_ble.specs.Reading.{Cut, lone, noted, onto, cut_at, cut_told, unit_note, ble_known, ble_end, last_tokens}
use Rattle.mb_ble.specs.News.{byte_news, token_news, news_from}
use Rattle.mb_ble.specs.Content.{EndedBy}
use Rattle.mb_ble.specs.Stands.{token_behind, last, StampIs, Holds, whole_at, BleStands, BleTells}
use Rattle.mb_ble.specs.declared.content.Content.{Content}
use Rattle.mb_ble.specs.declared.content.Head.{Head}
use Rattle.mb_ble.specs.declared.content.Head.TheVariants as head
use Rattle.mb_ble.specs.declared.position.Position.{Position}
use Rattle.mb_ble.proofs.Ordered.{Aboves-lower}
use Rattle.mb_ble.proofs.Law.{rise-rest}
use Rattle.mb_ble.proofs.Fronts.{news-above, Not, above-not, none-early, front-off}
use Rattle.mb_ble.proofs.Small.{nothing, rest_stands}
use Rattle.mb_ble.proofs.Whole.{Steps, tells-step, onto-append, known-split}

false≢true : false ≡ true → ⊥
false≢true e = cc

within_zero : (f : Place) → is_at_end f ≡ true → f ≡ Within 0
within_zero Between e = absurd (false≢true e)
within_zero (High h) e = absurd (false≢true e)
within_zero (Within n) e = ap Within (zero-is n e)
  where
    zero-is : (n : ℕ) → (n == 0) ≡ true → n ≡ 0
    zero-is n e = grind (arith, nat_tests)

-- what follows an end isn't early
parts-not : (before : List Token) (l : Token) (o : ℕ) (bytes : List ℕ) →
    Each (Not o) (news_from before (tokens o l (counted_parts bytes)))
parts-not before l o [] = tt
parts-not before l o (h ∷ []) = tt
parts-not before l o (h ∷ g ∷ bytes) =
    let n : ℕ = 256 * h + g in
    Each-append (Not o) (token_news before (Begins o n)) (news_from (Begins o n ∷ before) (tokens (o + 2) (Begins o n)
    (rest_parts n bytes)))
    (note (n == 0)) (above-not o (news_from (Begins o n ∷ before) (tokens (o + 2) (Begins o n) (rest_parts n bytes)))
    (Aboves-lower (7 * o + 5) (7 * o + 12) (news_from (Begins o n ∷ before) (tokens (o + 2) (Begins o n)
    (rest_parts n bytes))) (omega arith) (news-above (tokens (o + 2) (Begins o n) (rest_parts n bytes))
    (Begins o n ∷ before) (7 * o + 12) (rise-rest n bytes (o + 2) (Begins o n) (7 * o + 12) (omega arith)))))
  where
    note : (c : Bool) → Each (Not o) ((if c then noted 4 (clock before).moment (o + 1) o EmptyPacket ∷ [] else []) ++
        [])
    note true = (λ e. absurd (omega (arith, e.0)), tt)
    note false = tt

lone-not : (o a : ℕ) (before : List Token) → Each (Not o) (lone false 5 a before)
lone-not o a [] = tt
lone-not o a (Begins x l ∷ before) = tt
lone-not o a (Header u ∷ before) = tt
lone-not o a (Unheaded x ∷ before) = tt
lone-not o a (Skipped ∷ before) = tt
lone-not o a (Stamp x l ∷ before) = (λ e. absurd (omega (arith, e.2)), tt)
lone-not o a (Status x b ∷ before) = tt
lone-not o a (Data x b ∷ before) = tt
lone-not o a (Ends x ∷ before) = tt

cut-not : (o : ℕ) (g : Group) (k : Cut) (c : Bool) → Each (Not o) (if c then [] else cut_told g (Some k))
cut-not o g k true = tt
cut-not o g k false = by (begun_at g)
  where
    by : (x : Option ℕ) → Each (Not o) (elim x as (λ _. List Known) [
      | None ↦ []
      | Some at ↦ noted 6 k.moment k.at at
          Truncated ∷ []
    ])
    by None = tt
    by (Some at) = (λ e. absurd (omega (arith, e.2)), tt)

end-not : (before : List Token) (o a : ℕ) (rest : List Known) → Each (Not o) rest →
    Each (Not o) (token_news before (Ends a) ++ rest)
end-not before o a rest r =
    Each-append (Not o) (token_news before (Ends a)) rest (Each-append (Not o) (lone false 5 a before)
    (byte_news before (Ends a)) (lone-not o a before) (cut-not o (last_of (payload before)) (cut_at before a)
    (is_sysex (last_of (payload before))))) r

-- behind a content nothing is early, and a stamp's note is told or there is none
record AtEnd (was : Content) (before : List Token) (ahead : List Known) (holds : Holds was before ahead) : Type 0 where
  pub early : holds.early ≡ []
  pub note : ((at : ℕ) → was.head ≡ head.Stamped at → ⊥) → lone false 5 (was.offset - 1) before ≡ holds.stamp

at-end : (was : Content) (before : List Token) (ahead : List Known) (holds : Holds was before ahead)
    (rest : List Known) → is_between was.head ≡ false → Each (Not was.offset) rest →
    IsFront ahead (token_news before (Ends (was.offset - 1)) ++ rest) → AtEnd was before ahead holds
at-end was before ahead holds rest inside nots front = by was.head refl inside holds.stamp_is
  where
    whole : List Known
    whole = token_news before (Ends (was.offset - 1)) ++ rest

    with_stamp : IsFront (holds.stamp ++ holds.early) whole
    with_stamp = subst (λ z. IsFront z whole) holds.told_is front

    quiet : holds.stamp ≡ [] → holds.early ≡ []
    quiet e = none-early was.offset holds.early whole holds.are_early (subst (λ z. IsFront (z ++ holds.early) whole) e
        with_stamp) (end-not before was.offset (was.offset - 1) rest nots)

    by : (h : Head) → was.head ≡ h → is_between h ≡ false → StampIs h was.offset before holds.stamp →
        AtEnd was before ahead holds
    by head.Between e z s = absurd (false≢true (sym z))
    by head.Header e z s = record { early = quiet s.0; note = λ n. s.1 false 5 (was.offset - 1) ∙ sym s.0 }
    by head.Skip e z s = record { early = quiet s.0; note = λ n. s.1 false 5 (was.offset - 1) ∙ sym s.0 }
    by head.Inside e z s = record { early = quiet s.0; note = λ n. s.1 false 5 (was.offset - 1) ∙ sym s.0 }
    by (head.Stamped at) e z s = record { early = quiet s.0; note = λ n. absurd (n at e) }
    by head.Spent e z s = spent s.1
      where
        five : Known
        five = noted 5 (clock before).moment (was.offset - 1) s.0 LoneStamp

        one : lone false 5 (was.offset - 1) before ≡ five ∷ []
        one = s.2 false 5 (was.offset - 1)

        heads : (a c : Known) (xs ys : List Known) → a ∷ xs ≡ c ∷ ys → a ≡ c
        heads a c xs ys e = cc

        five_zero : ◌≡◌ {A = ℕ} 5 0 → ⊥
        five_zero e = omega (arith, e)

        whole_is : whole ≡ five ∷ (byte_news before (Ends (was.offset - 1)) ++ rest)
        whole_is = ap (λ z. (z ++ byte_news before (Ends (was.offset - 1))) ++ rest) one

        wrong : (es : List Known) → IsFront (noted 0 (clock before).moment was.offset s.0 LoneStamp ∷ es)
            (five ∷ (byte_news before (Ends (was.offset - 1)) ++ rest)) → ⊥
        wrong es f = five_zero (ap (λ k. k.rank) (heads five (noted 0 (clock before).moment was.offset s.0 LoneStamp)
            (byte_news before (Ends (was.offset - 1)) ++ rest) (es ++ f.0) f.1))

        spent : (holds.stamp ≡ noted 0 (clock before).moment was.offset s.0 LoneStamp ∷ []) ⊎
            ((holds.stamp ≡ noted 5 (clock before).moment (was.offset - 1) s.0 LoneStamp ∷ []) × (0 < was.offset)) →
            AtEnd was before ahead holds
        spent (inl is) = absurd (wrong holds.early (subst (λ z.
            IsFront (z ++ holds.early) (five ∷ (byte_news before (Ends (was.offset - 1)) ++ rest))) is
            (subst (IsFront (holds.stamp ++ holds.early)) whole_is with_stamp)))
        spent (inr is) = record {
          early = none-early was.offset holds.early (byte_news before (Ends (was.offset - 1)) ++ rest) holds.are_early
              (front-off (five ∷ []) holds.early (byte_news before (Ends (was.offset - 1)) ++ rest)
              (subst (λ z. IsFront (z ++ holds.early) (five ∷ (byte_news before (Ends (was.offset - 1)) ++ rest)))
              is.0 (subst (IsFront (holds.stamp ++ holds.early)) whole_is with_stamp)))
              (Each-append (Not was.offset) (byte_news before (Ends (was.offset - 1))) rest
              (cut-not was.offset (last_of (payload before)) (cut_at before (was.offset - 1))
              (is_sysex (last_of (payload before)))) nots);
          note = λ n. one ∙ sym is.0;
        }

end-tokens : (f : Place) (o : ℕ) (l : Token) (bytes : List ℕ) → f ≡ Within 0 → tokens o l (from f bytes) ≡
    Ends (o - 1) ∷ tokens o (Ends (o - 1)) (counted_parts bytes)
end-tokens f o l bytes e = ap (λ q. tokens o l (from q bytes)) e ∙ ap (tokens o l) (rest_parts-zero bytes)

linked-inside : (was : Position) → was.frames ≡ Within 0 → Fit was → (is_between was.content.head ≡ false) ×
    (0 < was.content.offset)
linked-inside was e fit = subst (λ q. Linked q was.content) e fit.linked

-- a stamp's note at the end
pub end_stamp_tells : (was now : Position) (input : List ℕ) (at moment : ℕ) (seen : List Part) → Fit was →
    is_at_end was.frames ≡ true → was.content.head ≡ head.Stamped at → now.content ≡ (let c : Content = was.content in
    record c { head = head.Spent }) → now.frames ≡ was.frames →
    moment ≡ was.content.clock.moment → seen ≡ record { moment = moment; told = Notes at LoneStamp } ∷ [] →
    BleTells was now input input seen
end_stamp_tells was now input at moment seen fit e h same frames mom told = tells-step was now input input seen
    (λ before ahead holds front. by before ahead holds front)
  where
    by : (before : List Token) (ahead : List Known) → Holds was.content before ahead →
        IsFront ahead (news_from before (tokens was.content.offset (last before) (from was.frames input))) →
        Steps was now input input seen before ahead
    by before ahead holds front =
        let c : Content = was.content in
        let o : ℕ = c.offset in
        let f : was.frames ≡ Within 0 = within_zero was.frames e in
        let l = linked-inside was f fit in
        let rest : List Known = news_from (Ends (o - 1) ∷ before) (tokens o (Ends (o - 1)) (counted_parts input)) in
        let toks = end-tokens was.frames o (last before) input f in
        let s : (holds.stamp ≡ []) × ((low : Bool) (rank known_at : ℕ) → lone low rank known_at before ≡
        (if low then [] else noted rank (clock before).moment known_at at LoneStamp ∷ [])) =
        subst (λ k. StampIs k o before holds.stamp) h holds.stamp_is in
        let there : IsFront ahead (token_news before (Ends (o - 1)) ++ rest) =
        subst (λ z. IsFront ahead (news_from before z)) toks front in
        let a : AtEnd c before ahead holds = at-end c before ahead holds rest l.0 (parts-not (Ends (o - 1) ∷ before)
        (Ends (o - 1)) o input) there in
        let none : ahead ≡ [] = holds.told_is ∙ ap (λ z. z ++ holds.early) s.0 ∙ a.early in
        let note : Known = noted 5 (clock before).moment (o - 1) at LoneStamp in
        let goes : Content = record c { head = head.Spent } in
        let h2 : Holds goes before (ahead ++ note ∷ []) = record {
          clock_is = holds.clock_is;
          running_is = holds.running_is;
          runs = holds.runs;
          kind = λ x y. holds.kind x y ∙ ap (λ k. byte_token x (token_behind k) y) h;
          stamp = note ∷ [];
          early = [];
          told_is = ap (λ z. z ++ note ∷ []) none;
          stamp_is = (at, inr (refl, l.1), s.1);
          din = subst (λ z. Stands c.din (payload before) (so_far (payload before) ++ z)) a.early holds.din;
          are_early = tt;
          here = inl refl;
          low = holds.low;
          rested = λ e. refl;
        } in
        let still : IsFront (ahead ++ note ∷ []) (token_news before (Ends (o - 1)) ++ rest) =
        subst (λ z. IsFront (z ++ note ∷ []) (token_news before (Ends (o - 1)) ++ rest)) (sym none)
        ((
          byte_news before (Ends (o - 1)) ++ rest,
          ap (λ z. (z ++ byte_news before (Ends (o - 1))) ++ rest)
              (s.1 false 5 (o - 1)),
        )) in
        record {
          new = [];
          taken = [];
          front = refl;
          parts_are = λ more. ap (λ q. tokens o (last before) (from q more)) (sym frames) ∙
              ap (λ k. tokens k.offset (last before) (from now.frames more)) (sym same);
          then_ahead = ahead ++ note ∷ [];
          holds = subst (λ k. Holds k before (ahead ++ note ∷ [])) (sym same) h2;
          fresh = note ∷ [];
          seen_is = ap (λ m. record { moment = m; told = Notes at LoneStamp } ∷ [])
              (sym (mom ∙ ap (λ k. k.moment) holds.clock_is)) ∙ sym told;
          told_is = refl;
          still = subst (λ k. IsFront (ahead ++ note ∷ []) (news_from before (tokens k.offset (last before)
              (from now.frames input)))) (sym same) (subst (λ q.
              IsFront (ahead ++ note ∷ []) (news_from before (tokens o (last before) (from q input)))) (sym frames)
              (subst (λ z. IsFront (ahead ++ note ∷ []) (news_from before z)) (sym toks) still));
          whole_is = λ more. ap (λ q. whole_at q more) (sym frames);
          offset = ap₂ (λ k q. k.offset + half q) same frames ∙ zero-more (o + half was.frames);
        }
      where
        zero-more : (n : ℕ) → n ≡ n + length {A = ℕ} []
        zero-more n = omega arith

truncated-same : (g : Group) (moment m a : ℕ) → moment ≡ m → is_sysex g ≡ false →
    map part_of (cut_told g (Some (record { at = a; moment = m }))) ≡ map (λ t. record { moment = moment; told = t })
    (at_end g)
truncated-same g moment m a e o = by (begun_at g) (is_sysex g) o
  where
    by : (x : Option ℕ) (p : Bool) → p ≡ false → map part_of (elim x as (λ _. List Known) [
      | None ↦ []
      | Some at ↦ noted
          6 m a at Truncated ∷ []
    ])
        ≡ map (λ t. record { moment = moment; told = t }) ((elim x as (λ _. List Told) [
          | None ↦ []
          | Some at ↦ Notes at
              Truncated ∷ []
        ]) ++ (if p then Marks AbortSign ∷ [] else []))
    by x true n = absurd (false≢true (sym n))
    by None false n = refl
    by (Some at) false n = ap (λ k. record { moment = k; told = Notes at Truncated } ∷ []) (sym e)

-- the end itself
pub end_groups_tells : (was now : Position) (input : List ℕ) (moment : ℕ) (seen : List Told) → Fit was →
    is_at_end was.frames ≡ true → ((at : ℕ) → was.content.head ≡ head.Stamped at → ⊥) → EndedBy was.content now.content
    seen → now.frames ≡ Between →
    moment ≡ was.content.clock.moment → BleTells was now input input (map (λ t. record { moment = moment; told = t })
    seen)
end_groups_tells was now input moment seen fit e no_stamp ended frames mom = tells-step was now input input
    (map (λ t. record { moment = moment; told = t }) seen) (λ before ahead holds front. by before ahead holds front)
  where
    by : (before : List Token) (ahead : List Known) → Holds was.content before ahead →
        IsFront ahead (news_from before (tokens was.content.offset (last before) (from was.frames input))) →
        Steps was now input input (map (λ t. record { moment = moment; told = t }) seen) before ahead
    by before ahead holds front = at (is_sysex g) refl
      where
        o : ℕ
        o = was.content.offset

        t : Token
        t = Ends (was.content.offset - 1)

        es : List Entry
        es = payload before

        g : Group
        g = last_of (payload before)

        f : was.frames ≡ Within 0
        f = within_zero was.frames e

        rest : List Known
        rest = news_from (t ∷ before) (tokens o t (counted_parts input))

        there : IsFront ahead (token_news before t ++ rest)
        there = subst (λ z. IsFront ahead (news_from before z)) (end-tokens was.frames o (last before) input f) front

        a : AtEnd was.content before ahead holds
        a = at-end was.content before ahead holds rest (linked-inside was f fit).0 (parts-not (t ∷ before) t o input)
            there

        is : ahead ≡ lone false 5 (was.content.offset - 1) before
        is = holds.told_is ∙ ap (λ z. holds.stamp ++ z) a.early ∙ append-nil holds.stamp ∙ sym (a.note no_stamp)

        steps : (fresh : List Known) → byte_news before t ≡ fresh → map part_of fresh ≡ map (λ t.
            record { moment = moment; told = t }) seen → Stands now.content.din (payload (t ∷ before))
            (so_far (payload (t ∷ before))) → Steps was now input input (map (λ t. record { moment = moment; told = t })
            seen) before ahead
        steps fresh news seen_is din = record {
          new = t ∷ [];
          taken = [];
          front = refl;
          parts_are = λ more. end-tokens was.frames o (last before) more f ∙
              ap (λ n. t ∷ tokens n t (counted_parts more)) (sym ended.offset) ∙
              ap (λ q. t ∷ tokens now.content.offset t (from q more)) (sym frames);
          then_ahead = [];
          holds = record {
            clock_is = ended.clock ∙ holds.clock_is;
            running_is = ended.running;
            runs = λ s e. absurd (none_some s e);
            kind = λ x y. ap (λ k. byte_token x (token_behind k) y) (sym ended.head);
            stamp = [];
            early = [];
            told_is = refl;
            stamp_is = subst (λ k. StampIs k now.content.offset (t ∷ before) []) (sym ended.head) (
              refl,
              λ low rank ka.
                  refl,
            );
            din = subst (λ z. Stands now.content.din (payload (t ∷ before)) z)
                (sym (append-nil (so_far (payload (t ∷ before))))) din;
            are_early = tt;
            here = inl refl;
            low = omega (arith, holds.low, ended.low, ended.offset);
            rested = λ e. refl;
          };
          fresh = fresh;
          seen_is = seen_is;
          told_is = ap₂ (λ x y. x ++ y) is (sym news) ∙ sym (append-nil (token_news before t)) ∙
              sym (append-nil (token_news before t ++ []));
          still = nothing _;
          whole_is = λ more. ap (λ q. whole_at q more) f ∙ ap (λ q. whole_at q more) (sym frames);
          offset = ap₂ (λ n q. n + half q) ended.offset frames ∙ zero-more o ∙ ap (λ q. o + half q + length {A = ℕ} [])
              (sym f);
        }
          where
            none_some : (s : ℕ) → None ≡ Some s → ⊥
            none_some s e = cc

            zero-more : (n : ℕ) → n + 0 ≡ n + 0 + length {A = ℕ} []
            zero-more n = omega arith

        at : (c : Bool) → is_sysex g ≡ c → Steps was now input input (map (λ t. record { moment = moment; told = t })
            seen) before ahead
        at true p =
            let q = ended.opened es (rest_stands was.content before ahead holds a.early) p in
            steps [] (ap (λ c. if c then [] else cut_told g (Some (cut_at before (was.content.offset - 1)))) p)
            (ap (map (λ t. record { moment = moment; told = t })) (sym q.0))
            (subst (λ c. Stands now.content.din (if c then es else []) (so_far (if c then es else []))) (sym p)
            (subst (λ d. Stands d es (so_far es)) (sym q.1) (rest_stands was.content before ahead holds a.early)))
        at false p =
            let q = ended.closed es (rest_stands was.content before ahead holds a.early) p in
            steps (cut_told g (Some (cut_at before (was.content.offset - 1))))
            (ap (λ c. if c then [] else cut_told g (Some (cut_at before (was.content.offset - 1)))) p)
            (truncated-same g moment (clock before).moment (was.content.offset - 1) (mom ∙
            ap (λ k. k.moment) holds.clock_is) p ∙ ap (map (λ t. record { moment = moment; told = t })) (sym q.0))
            (subst (λ c. Stands now.content.din (if c then es else []) (so_far (if c then es else []))) (sym p) q.1)

-- the recording's end
abbrev finished : ℕ → List Entry → List Part
finished moment es = map (λ t. record { moment = moment; told = t }) (at_end (last_of es))

nil-front : (xs ys : List Known) → xs ++ ys ≡ [] → ys ≡ []
nil-front [] ys e = e
nil-front (x ∷ xs) ys e = absurd (cons_nil x (xs ++ ys) e)
  where
    cons_nil : (x : Known) (xs : List Known) → x ∷ xs ≡ [] → ⊥
    cons_nil x xs e = cc

one-front : (x : Known) (ys : List Known) → x ∷ ys ≡ x ∷ [] → ys ≡ []
one-front x ys e = cancel (x ∷ []) ys [] e

-- where all is told at a packet's end, the end tells nothing
end-nothing : (was : Content) (before : List Token) (ahead : List Known) (holds : Holds was before ahead) →
    is_between was.head ≡ false → ahead ≡ token_news before (Ends (was.offset - 1)) → (holds.early ≡ []) ×
    (byte_news before (Ends (was.offset - 1)) ≡ [])
end-nothing was before ahead holds inside all = (a.early, by was.head refl inside holds.stamp_is)
  where
    t : Token
    t = Ends (was.offset - 1)

    a : AtEnd was before ahead holds
    a = at-end was before ahead holds [] inside tt ((
      [],
      append-nil (token_news before t) ∙ sym all ∙
          sym (append-nil ahead),
    ))

    stamp_is : holds.stamp ≡ unit_note before t ++ byte_news before t
    stamp_is = sym (append-nil holds.stamp) ∙ ap (λ z. holds.stamp ++ z) (sym a.early) ∙ sym holds.told_is ∙ all

    by : (h : Head) → was.head ≡ h → is_between h ≡ false → StampIs h was.offset before holds.stamp →
        byte_news before t ≡ []
    by head.Between e z s = absurd (false≢true (sym z))
    by head.Header e z s = nil-front (unit_note before t) (byte_news before t) (sym stamp_is ∙ s.0)
    by head.Skip e z s = nil-front (unit_note before t) (byte_news before t) (sym stamp_is ∙ s.0)
    by head.Inside e z s = nil-front (unit_note before t) (byte_news before t) (sym stamp_is ∙ s.0)
    by (head.Stamped at) e z s = nil-front (unit_note before t) (byte_news before t) (sym stamp_is ∙ s.0)
    by head.Spent e z s =
        let n : lone false 5 (was.offset - 1) before ≡ holds.stamp = a.note (λ at h. not_both at (sym h ∙ e)) in
        let one : lone false 5 (was.offset - 1) before ≡ noted 5 (clock before).moment (was.offset - 1) s.0 LoneStamp ∷
        [] = s.2 false 5 (was.offset - 1) in
        one-front (noted 5 (clock before).moment (was.offset - 1) s.0 LoneStamp) (byte_news before t)
        (ap (λ z. z ++ byte_news before t) (sym one) ∙ sym stamp_is ∙ sym n ∙ one)
      where
        not_both : (at : ℕ) → head.Stamped at ≡ head.Spent → ⊥
        not_both at e = cc

end-same : (before : List Token) (a : ℕ) (moment : ℕ) → byte_news before (Ends a) ≡ [] →
    finished moment (payload before) ≡ finished moment (payload (Ends a ∷ before))
end-same before a moment e = by (is_sysex (last_of (payload before))) refl e
  where
    g : Group
    g = last_of (payload before)

    by : (c : Bool) → is_sysex g ≡ c → (if c then [] else cut_told g (Some (cut_at before a))) ≡ [] →
        finished moment (payload before) ≡ finished moment (if c then payload before else [])
    by true o e = refl
    by false o e = none (begun_at g) (is_sysex g) o e
      where
        none : (x : Option ℕ) (p : Bool) → p ≡ false → (elim x as (λ _. List Known) [
          | None ↦ []
          | Some at ↦ noted 6
              (clock before).moment a at Truncated ∷ []
        ]) ≡ [] →
            map {B = Part} (λ t. record { moment = moment; told = t })
            ((elim x as (λ _. List Told) [ None ↦ [] | Some at ↦ Notes at Truncated ∷ [] ]) ++
            (if p then Marks AbortSign ∷ [] else [])) ≡ []
        none x true n e = absurd (false≢true (sym n))
        none None false n e = refl
        none (Some at) false n e = absurd (cons_nil (noted 6 (clock before).moment a at Truncated) [] e)
          where
            cons_nil : (x : Known) (xs : List Known) → x ∷ xs ≡ [] → ⊥
            cons_nil x xs e = cc

pub finish_tells : (was : Position) (moment : ℕ) (seen : List Told) (result : List Part) → Fit was →
    moment ≡ was.content.clock.moment → ((entries : List Entry) → Stands was.content.din entries (so_far entries) →
    seen ≡ at_end (last_of entries)) → result ≡ map (λ t. record { moment = moment; told = t }) seen →
    (bytes : List ℕ) → BleStands was bytes (ble_known bytes) → result ≡ ble_end bytes
finish_tells was moment seen result fit mom told is bytes st = is ∙ by was.frames refl fit.linked
  where
    b : List Token
    b = st.before

    m : moment ≡ (clock b).moment
    m = mom ∙ ap (λ k. k.moment) st.holds.clock_is

    known : ble_known bytes ≡ news_from [] st.taken ++ news_from b (tokens was.content.offset (last b)
        (from was.frames []))
    known = ap ble_known (sym (append-nil bytes)) ∙ known-split was bytes [] (ble_known bytes) st

    ahead_is : st.ahead ≡ news_from b (tokens was.content.offset (last b) (from was.frames []))
    ahead_is = cancel (news_from [] st.taken) st.ahead (news_from b (tokens was.content.offset (last b)
        (from was.frames []))) (sym st.told_is ∙ known)

    seen_now : st.holds.early ≡ [] → map (λ t. record { moment = moment; told = t }) seen ≡ finished (clock b).moment
        (payload b)
    seen_now e = ap₂ (λ n ts. map (λ t. record { moment = n; told = t }) ts) m
        (told (payload b) (rest_stands was.content b st.ahead st.holds e))

    toks : all_tokens bytes ≡ st.taken ++ tokens was.content.offset (last b) (from was.frames [])
    toks = ap all_tokens (sym (append-nil bytes)) ∙ st.tokens_are []

    quiet : tokens was.content.offset (last b) (from was.frames []) ≡ [] →
        map (λ t. record { moment = moment; told = t }) seen ≡ ble_end bytes
    quiet e =
        let none : st.ahead ≡ [] = ahead_is ∙ ap (news_from b) e in
        let last_is : last_tokens bytes ≡ b = ap (onto []) (toks ∙ ap (λ z. st.taken ++ z) e ∙ append-nil st.taken) ∙
        sym st.before_is in
        seen_now (nil-front st.holds.stamp st.holds.early (sym st.holds.told_is ∙ none)) ∙
        ap (λ z. finished (clock z).moment (payload z)) (sym last_is)

    by : (f : Place) → was.frames ≡ f → Linked f was.content → map (λ t. record { moment = moment; told = t }) seen ≡
        ble_end bytes
    by Between e l = quiet (ap (λ q. tokens was.content.offset (last b) (from q [])) e)
    by (High h) e l = quiet (ap (λ q. tokens was.content.offset (last b) (from q [])) e)
    by (Within (suc n)) e l = quiet (ap (λ q. tokens was.content.offset (last b) (from q [])) e)
    by (Within zero) e l =
        let o : ℕ = was.content.offset in
        let t : Token = Ends (o - 1) in
        let one : tokens o (last b) (from was.frames []) ≡ t ∷ [] = ap (λ q. tokens o (last b) (from q [])) e in
        let n = end-nothing was.content b st.ahead st.holds l.0 (ahead_is ∙ ap (news_from b) one ∙
        append-nil (token_news b t)) in
        let last_is : last_tokens bytes ≡ t ∷ b = ap (onto []) (toks ∙ ap (λ z. st.taken ++ z) one) ∙
        onto-append st.taken (t ∷ []) [] ∙ ap (λ z. t ∷ z) (sym st.before_is) in
        seen_now n.0 ∙ end-same b (o - 1) (clock b).moment n.1 ∙ ap (λ z. finished (clock z).moment (payload z))
        (sym last_is)

pub finish_fit : (was : Position) (c : Content) → c ≡ (let k : Content = was.content in record k {
  running = None;
  din =
      c.din;
}) → c.din.offset ≡ was.content.din.offset → Fit was → Fit (record { frames = was.frames; content = c })
finish_fit was c is low fit = record {
  calm = record {
    low = omega (arith, fit.calm.low, low, ap (λ k. k.offset) is);
    runs = subst (λ r. IfSome r (λ s. is_channel s ≡ true)) (sym (ap (λ k. k.running) is)) tt;
    moment = subst (λ k. 2 * k.clock.moment ≤ 8191 * (k.offset + slack k.head)) (sym is) fit.calm.moment;
  };
  linked = subst (λ k. Linked was.frames k) (sym is) (by was.frames fit.linked);
}
  where
    by : (f : Place) → Linked f was.content → Linked f (let k : Content = was.content in record k {
      running = None;
      din = c.din;
    })
    by Between l = l
    by (High h) l = l
    by (Within n) l = l
