-- What the small steps of a content's reader read: a header, a stamp, a lone stamp.
use Rattle.std.proofs.Common.{◌≡◌, ℕ, zero, suc, ◌+◌, ◌-◌, ◌*◌, ◌%◌, ◌<◌, ◌≤◌, Bool, true, false, List, [], ◌∷◌, ◌++◌}
use Rattle.std.proofs.Common.{length, map, refl, ap, sym, subst, ◌∙◌, arith, append-nil, inl}
use Rattle.std.specs.Prelude.{if◌then◌else◌, nat_lt}
use Rattle.mb_clock.specs.Clock.{begun, stamped}
use Rattle.mb_din.specs.Reader.{Stands}
use Rattle.mb_message.specs.Front.{IsFront}
use Rattle.mb_message.specs.Bytes.{is_channel}
use Rattle.mb_stream.specs.Order.{Each}
use Rattle.mb_stream.proofs.OrderLemmas.{Each-append}
use Rattle.mb_stream.specs.Groups.{last_of}
use Rattle.mb_stream.specs.Payload.{Entry}
use Rattle.mb_stream.specs.Reading.{part_of, so_far}
use Rattle.mb_stream.specs.Told.{Told, Notes, Known, may_run}
use Rattle.mb_stream.specs.Working.{news}
use Rattle.mb_message.specs.declared.note.NoteKind.TheVariants.{BadHeader, LoneStamp}
use Rattle.mb_ble.specs.Packets.{Token, Header, Unheaded, Skipped, Stamp, Status, Data, byte_token, tokens, clock}
use Rattle.mb_ble.specs.Packets.{running, is_full, payload, spot}
use Rattle.mb_ble.specs.Reading.{lone, noted}
use Rattle.mb_ble.specs.News.{token_news, news_from}
use Rattle.mb_ble.specs.Content.{headed_by, headed, headed_told_by, headed_told, stamped_at}
use Rattle.mb_ble.specs.Stands.{is_heady, token_behind, last, NoStamp, StampIs, Holds, Read, Reads}
use Rattle.mb_ble.specs.declared.content.Content.{Content}
use Rattle.mb_ble.specs.declared.content.Head.{Head}
use Rattle.mb_ble.specs.declared.content.Head.TheVariants as head
use Rattle.mb_ble.proofs.Law.{rise-rest}
use Rattle.mb_ble.proofs.Fronts.{news-above, Not, above-not, none-early, data-not}
use Rattle.mb_frames.specs.Counting.{rest_parts}
use Rattle.mb_ble.specs.State.{is_between}

pub nothing : (ks : List Known) → IsFront [] ks
nothing ks = (ks, refl)

-- one byte taken
pub read-one : (was now : Content) (b : ℕ) (bs : List ℕ) (seen : List Told) (before : List Token) (told : List Known)
    (room : ℕ) (following : List ℕ) (t : Token) (ahead fresh : List Known) →
    byte_token was.offset (last before) b ≡ t → now.offset ≡ was.offset + 1 → Holds now (t ∷ before) ahead →
    map part_of fresh ≡ map (λ t. record { moment = now.clock.moment; told = t }) seen → told ++
    fresh ≡ token_news before t ++ ahead →
    IsFront ahead (news_from (t ∷ before) (tokens now.offset t (rest_parts room (bs ++ following)))) →
    Read was now (b ∷ bs) bs seen before told (suc room) following
read-one was now b bs seen before told room following t ahead fresh e o holds seen_is told_is still =
    let sub : suc room - length (b ∷ []) ≡ room = omega arith in
    record {
      new = t ∷ [];
      taken = b ∷ [];
      front = refl;
      parts = λ more.
          ap (λ u. u ∷ tokens (was.offset + 1) u (rest_parts room more)) e ∙
          ap (λ n. t ∷ tokens n t (rest_parts room more)) (sym o) ∙
          ap (λ r. t ∷ tokens now.offset t (rest_parts r more)) (sym sub);
      ahead = ahead;
      holds = holds;
      fresh = fresh;
      seen_is = seen_is;
      told_is = told_is ∙ ap (λ z. z ++ ahead) (sym (append-nil (token_news before t)));
      still = subst (λ r. IsFront ahead (news_from (t ∷ before) (tokens now.offset t (rest_parts r (bs ++ following)))))
          (sym sub) still;
    }

-- no byte taken
pub read-none : (was now : Content) (input : List ℕ) (seen : List Told) (before : List Token) (told : List Known)
    (room : ℕ) (following : List ℕ) (fresh : List Known) →
    now.offset ≡ was.offset → Holds now before (told ++ fresh) → map part_of fresh ≡ map (λ t.
    record { moment = now.clock.moment; told = t }) seen →
    IsFront (told ++ fresh) (news_from before (tokens was.offset (last before) (rest_parts room (input ++ following))))
    →
    Read was now input input seen before told room following
read-none was now input seen before told room following fresh o holds seen_is still =
    let sub : room - length {A = ℕ} [] ≡ room = omega arith in
    record {
      new = [];
      taken = [];
      front = refl;
      parts = λ more. ap (λ n. tokens n (last before) (rest_parts room more)) (sym o) ∙
          ap (λ r. tokens now.offset (last before) (rest_parts r more)) (sym sub);
      ahead = told ++ fresh;
      holds = holds;
      fresh = fresh;
      seen_is = seen_is;
      told_is = refl;
      still = subst (λ r. IsFront (told ++ fresh) (news_from before (tokens now.offset (last before)
          (rest_parts r (input ++ following))))) (sym sub) (subst (λ n.
          IsFront (told ++ fresh) (news_from before (tokens n (last before) (rest_parts room (input ++ following)))))
          (sym o) still);
    }

-- what follows a byte isn't early
pub later-not : (before : List Token) (t : Token) (o room : ℕ) (bytes : List ℕ) →
    Each (Not o) (news_from before (tokens (o + 1) t (rest_parts room bytes)))
later-not before t o room bytes = above-not o (news_from before (tokens (o + 1) t (rest_parts room bytes)))
    (news-above (tokens (o + 1) t (rest_parts room bytes)) before (7 * o + 5) (rise-rest room bytes (o + 1) t
    (7 * o + 5) (omega arith)))

pub no_told : (now : Content) (before : List Token) (told : List Known) (h : Holds now before told) → h.stamp ≡ [] →
    h.early ≡ [] → told ≡ []
no_told now before told h a b = h.told_is ∙ ap (λ z. z ++ h.early) a ∙ b

pub rest_stands : (now : Content) (before : List Token) (told : List Known) (h : Holds now before told) → h.early ≡ [] →
    Stands now.din (payload before) (so_far (payload before))
rest_stands now before told h e = subst (λ z. Stands now.din (payload before) z) (append-nil (so_far (payload before)))
    (subst (λ z. Stands now.din (payload before) (so_far (payload before) ++ z)) e h.din)

-- all is told behind a token that leaves the groups as they are
pub holds-quiet : (was now : Content) (t : Token) (before : List Token) (told : List Known)
    (h : Holds was before told) → h.early ≡ [] → payload (t ∷ before) ≡ payload before → running (t ∷ before) ≡
    running before →
    now.clock ≡ clock (t ∷ before) → now.running ≡ was.running → now.din ≡ was.din → was.offset ≤ now.offset →
    ((at b : ℕ) → byte_token at t b ≡ byte_token at (token_behind now.head) b) →
    StampIs now.head now.offset (t ∷ before) [] → Holds now (t ∷ before) []
holds-quiet was now t before told h none p q c r d le k s = record {
  clock_is = c;
  running_is = r ∙ h.running_is ∙ sym q;
  runs = λ x e. subst (λ z. (is_channel x ≡ true) × (is_full (last_of z) ≡ false)) (sym p) (h.runs x (sym q ∙ e));
  kind = k;
  stamp = [];
  early = [];
  told_is = refl;
  stamp_is = s;
  din = subst (λ z. Stands now.din z (so_far z ++ [])) (sym p)
      (subst (λ z. Stands z (payload before) (so_far (payload before) ++ [])) (sym d)
      (subst (λ z. Stands was.din (payload before) (so_far (payload before) ++ z)) none h.din));
  are_early = tt;
  here = inl refl;
  low = subst (λ z. z.offset ≤ now.offset) (sym d) (omega (arith, h.low, le));
  rested = λ e. refl;
}

head_reads : (h : Head) (was : Content) (b : ℕ) (bs : List ℕ) → was.head ≡ h → is_heady h ≡ true →
    is_between h ≡ false → (before : List Token) (told : List Known) (room : ℕ) (following : List ℕ) →
    Holds was before told →
    Read was (headed_by h was b) (b ∷ bs) bs (headed_told_by h was b) before told (suc room) following
head_reads head.Between was b bs e a z before told room following holds = absurd (none z)
  where
    none : true ≡ false → ⊥
    none e = cc
head_reads head.Inside was b bs e a z before told room following holds = absurd (none a)
  where
    none : false ≡ true → ⊥
    none e = cc
head_reads (head.Stamped at) was b bs e a z before told room following holds = absurd (none a)
  where
    none : false ≡ true → ⊥
    none e = cc
head_reads head.Spent was b bs e a z before told room following holds = absurd (none a)
  where
    none : false ≡ true → ⊥
    none e = cc
head_reads head.Skip was b bs e a z before told room following holds =
    let early : holds.early ≡ [] = holds.rested (ap is_heady e) in
    let s : NoStamp before holds.stamp = subst (λ h. StampIs h was.offset before holds.stamp) e holds.stamp_is in
    let none : told ≡ [] = no_told was before told holds s.0 early in
    let now : Content = record was { offset = was.offset + 1 } in
    read-one was now b bs [] before told room following Skipped [] [] (holds.kind was.offset b ∙
    ap (λ h. byte_token was.offset (token_behind h) b) e) refl
    (holds-quiet was now Skipped before told holds early refl refl holds.clock_is refl refl (omega arith) (λ at x.
    ap (λ h. byte_token at (token_behind h) x) (sym e)) (subst (λ h. StampIs h (was.offset + 1) (Skipped ∷ before)
    []) (sym e) (refl, λ low rank ka. refl))) refl (append-nil told ∙ none) (nothing _)
head_reads head.Header was b bs e a z before told room following holds = by (nat_lt b 128) (holds.kind was.offset b ∙
    ap (λ h. byte_token was.offset (token_behind h) b) e)
  where
    early : holds.early ≡ []
    early = holds.rested (ap is_heady e)

    none : told ≡ []
    none =
        let s : NoStamp before holds.stamp = subst (λ h. StampIs h was.offset before holds.stamp) e holds.stamp_is in
        no_told was before told holds s.0 early

    by : (c : Bool) → byte_token was.offset (last before) b ≡ (if c then Unheaded was.offset else Header (b % 64)) →
        Read was (if c then record was { offset = was.offset + 1; head = head.Skip } else record was {
          offset =
              was.offset + 1;
          head = head.Inside;
          clock = begun was.clock (b % 64);
        }) (b ∷ bs) bs
        (if c then Notes was.offset BadHeader ∷ [] else []) before told (suc room) following
    by true k =
        let now : Content = record was { offset = was.offset + 1; head = head.Skip } in
        let note : Known = noted 4 (clock before).moment was.offset was.offset BadHeader in
        read-one was now b bs (Notes was.offset BadHeader ∷ []) before told room following (Unheaded was.offset) []
        (note ∷ []) k refl
        (holds-quiet was now (Unheaded was.offset) before told holds early refl refl holds.clock_is refl refl
        (omega arith) (λ at x. refl) (refl, λ low rank ka. refl))
        (ap (λ c. record { moment = c.moment; told = Notes was.offset BadHeader } ∷ []) (sym holds.clock_is))
        (ap (λ z. z ++ note ∷ []) none) (nothing _)
    by false k =
        let now : Content = record was {
          offset = was.offset + 1;
          head = head.Inside;
          clock =
              begun was.clock (b % 64);
        } in
        read-one was now b bs [] before told room following (Header (b % 64)) [] [] k refl
        (holds-quiet was now (Header (b % 64)) before told holds early refl refl (ap (λ c. begun c (b % 64))
        holds.clock_is) refl refl (omega arith) (λ at x. refl) (refl, λ low rank ka. refl)) refl (append-nil told ∙
        none) (nothing _)

-- in code: the piece's first byte
pub reads-first : (was now : Content) (input left : List ℕ) (b : ℕ) (seen : List Told) → input ≡ b ∷ left →
    ((before : List Token) (told : List Known) (room : ℕ) (following : List ℕ) → Holds was before told →
    IsFront told (news_from before (tokens was.offset (last before) (rest_parts (suc room) (b ∷ (left ++ following)))))
    → Read was now (b ∷ left) left seen before told (suc room) following) → Reads was now input left seen
reads-first was now input left b seen e f = record {
  reads = λ before told room following holds fits front.
      by before told room following holds (subst (λ z. length z ≤ room) e fits)
      (subst (λ z. IsFront told (news_from before (tokens was.offset (last before) (rest_parts room (z ++ following))))) e
      front);
}
  where
    by : (before : List Token) (told : List Known) (room : ℕ) (following : List ℕ) → Holds was before told →
        length (b ∷ left) ≤ room →
        IsFront told (news_from before (tokens was.offset (last before) (rest_parts room ((b ∷ left) ++ following)))) →
        Read was now input left seen before told room following
    by before told zero following holds fits front = absurd (omega arith)
    by before told (suc room) following holds fits front = subst (λ z. Read was now z left seen before told (suc room)
        following) (sym e) (f before told room following holds front)

pub head_law : (was now : Content) (input left : List ℕ) (b : ℕ) (seen : List Told) → input ≡ b ∷ left →
    is_heady was.head ≡ true → is_between was.head ≡ false → now ≡ headed was b → seen ≡ headed_told was b →
    Reads was now input left seen
head_law was now input left b seen e a z n s = reads-first was now input left b seen e (λ before told room following
    holds front.
    subst (λ c. Read was c (b ∷ left) left seen before told (suc room) following) (sym n)
    (subst (λ t. Read was (headed was b) (b ∷ left) left t before told (suc room) following) (sym s)
    (head_reads was.head was b left refl a z before told room following holds)))

-- a stamp
pub stamp_law : (was now : Content) (input left : List ℕ) (b : ℕ) → input ≡ b ∷ left → was.head ≡ head.Inside →
    nat_lt b 128 ≡ false → now ≡ stamped_at was b → Reads was now input left []
stamp_law was now input left b e a high n = reads-first was now input left b [] e (λ before told room following holds
    front.
    subst (λ c. Read was c (b ∷ left) left [] before told (suc room) following) (sym n) (by before told room following
    holds front))
  where
    by : (before : List Token) (told : List Known) (room : ℕ) (following : List ℕ) → Holds was before told →
        IsFront told (news_from before (tokens was.offset (last before)
        (rest_parts (suc room) (b ∷ (left ++ following))))) → Read was (stamped_at was b) (b ∷ left) left [] before told
        (suc room) following
    by before told room following holds front =
        let k : byte_token was.offset (last before) b ≡ Stamp was.offset (b % 128) = holds.kind was.offset b ∙
        ap (λ h. byte_token was.offset (token_behind h) b) a ∙
        ap (λ c. if c then Data was.offset b else Stamp was.offset (b % 128)) high in
        let t : Token = Stamp was.offset (b % 128) in
        let s : NoStamp before holds.stamp = subst (λ h. StampIs h was.offset before holds.stamp) a holds.stamp_is in
        let is : told ≡ holds.early = holds.told_is ∙ ap (λ z. z ++ holds.early) s.0 in
        let rest : List Known = news_from (t ∷ before) (tokens (was.offset + 1) t (rest_parts room (left ++
        following))) in
        let there : IsFront holds.early rest = subst (λ z. IsFront z rest) is
        (subst (λ u. IsFront told (token_news before u ++
        news_from (u ∷ before) (tokens (was.offset + 1) u (rest_parts room (left ++ following))))) k front) in
        let early : holds.early ≡ [] = none-early was.offset holds.early rest holds.are_early there
        (later-not (t ∷ before) t was.offset room (left ++ following)) in
        read-one was (stamped_at was b) b left [] before told room following t [] [] k refl
        (holds-quiet was (stamped_at was b) t before told holds early refl refl (ap (λ c. stamped c (b % 128))
        holds.clock_is) refl refl (omega arith) (λ at x. refl) (refl, λ low rank ka. refl)) refl (append-nil told ∙
        is ∙ early) (nothing _)

-- the note of a stamp before a data byte at which no running message may begin
pub lone_law : (was now : Content) (input left : List ℕ) (b at : ℕ) (may : Bool) → input ≡ b ∷ left →
    was.head ≡ head.Stamped at → nat_lt b 128 ≡ true → may ≡ false → ((entries : List Entry) →
    Stands was.din entries (so_far entries) → may ≡ may_run (last_of entries)) →
    now ≡ record was { head = head.Spent } → Reads was now input input (Notes at LoneStamp ∷ [])
lone_law was now input left b at may e a low is_no law n = record {
  reads = λ before told room following holds fits front. subst (λ c. Read was c input input (Notes at LoneStamp ∷ [])
      before told room following) (sym n)
      (subst (λ z. Read was (record was { head = head.Spent }) z z (Notes at LoneStamp ∷ []) before told room following)
      (sym e) (by before told room following holds (subst (λ z. length z ≤ room) e fits)
      (subst (λ z. IsFront told (news_from before (tokens was.offset (last before) (rest_parts room (z ++
      following))))) e front)));
}
  where
    by : (before : List Token) (told : List Known) (room : ℕ) (following : List ℕ) → Holds was before told →
        length (b ∷ left) ≤ room →
        IsFront told (news_from before (tokens was.offset (last before) (rest_parts room ((b ∷ left) ++ following)))) →
        Read was (record was { head = head.Spent }) (b ∷ left) (b ∷ left) (Notes at LoneStamp ∷ []) before told room
        following
    by before told zero following holds fits front = absurd (omega arith)
    by before told (suc room) following holds fits front =
        let o : ℕ = was.offset in
        let k : byte_token o (last before) b ≡ Data o b = holds.kind o b ∙ ap (λ h. byte_token o (token_behind h) b) a ∙
        ap (λ c. if c then Data o b else Status o b) low in
        let s : (holds.stamp ≡ []) × ((low : Bool) (rank known_at : ℕ) → lone low rank known_at before ≡
        (if low then [] else noted rank (clock before).moment known_at at LoneStamp ∷ [])) =
        subst (λ h. StampIs h o before holds.stamp) a holds.stamp_is in
        let is : told ≡ holds.early = holds.told_is ∙ ap (λ z. z ++ holds.early) s.0 in
        let m : Bool = may_run (last_of (payload before)) in
        let ns : List Known = news (last_of (payload before)) (spot before o b) in
        let rest : List Known = news_from (Data o b ∷ before) (tokens (o + 1) (Data o b) (rest_parts room (left ++
        following))) in
        let whole : IsFront holds.early ((lone m 0 o before ++ ns) ++ rest) =
        subst (λ z. IsFront z ((lone m 0 o before ++ ns) ++ rest)) is
        (subst (λ u. IsFront told (token_news before u ++
        news_from (u ∷ before) (tokens (o + 1) u (rest_parts room (left ++ following))))) k front) in
        let early : holds.early ≡ [] = none-early o holds.early ((lone m 0 o before ++ ns) ++ rest) holds.are_early
        whole
        (Each-append (Not o) (lone m 0 o before ++ ns) rest (Each-append (Not o) (lone m 0 o before) ns
        (subst (Each (Not o)) (sym (s.1 m 0 o)) (lone-not m before)) (data-not (last_of (payload before))
        (spot before o b) low)) (later-not (Data o b ∷ before) (Data o b) o room (left ++ following))) in
        let none : told ≡ [] = is ∙ early in
        let note : Known = noted 0 (clock before).moment o at LoneStamp in
        let off : m ≡ false = sym (law (payload before) (rest_stands was before told holds early)) ∙ is_no in
        let now : Content = record was { head = head.Spent } in
        let one : lone m 0 o before ≡ note ∷ [] = s.1 m 0 o ∙ ap (λ c. if c then [] else note ∷ []) off in
        let still : IsFront (told ++ note ∷ []) ((lone m 0 o before ++ ns) ++ rest) =
        subst (λ z. IsFront (z ++ note ∷ []) ((lone m 0 o before ++ ns) ++ rest)) (sym none)
        ((ns ++ rest, ap (λ z. (z ++ ns) ++ rest) one)) in
        read-none was now (b ∷ left) (Notes at LoneStamp ∷ []) before told (suc room) following (note ∷ []) refl
        (record {
          clock_is = holds.clock_is;
          running_is = holds.running_is;
          runs = holds.runs;
          kind = λ x y. holds.kind x y ∙ ap (λ h. byte_token x (token_behind h) y) a;
          stamp = note ∷ [];
          early = [];
          told_is = ap (λ z. z ++ note ∷ []) none;
          stamp_is = (at, inl refl, s.1);
          din = subst (λ z. Stands was.din (payload before) (so_far (payload before) ++ z)) early holds.din;
          are_early = tt;
          here = inl refl;
          low = holds.low;
          rested = λ e. refl;
        })
        (ap (λ c. record { moment = c.moment; told = Notes at LoneStamp } ∷ []) (sym holds.clock_is))
        (subst (λ u. IsFront (told ++ note ∷ []) (token_news before u ++
        news_from (u ∷ before) (tokens (o + 1) u (rest_parts room (left ++ following))))) (sym k) still)
      where
        lone-not : (c : Bool) (before : List Token) → Each (Not was.offset) (if c then [] else
            noted 0 (clock before).moment was.offset at LoneStamp ∷ [])
        lone-not true before = tt
        lone-not false before = (λ e. absurd (omega (arith, e.2)), tt)

pub lone_law_any : (was now : Content) (input : List ℕ) (at : ℕ) (low may : Bool) → was.head ≡ head.Stamped at →
    0 < length input → ((b : ℕ) (bs : List ℕ) → input ≡ b ∷ bs → nat_lt b 128 ≡ low) → low ≡ true → may ≡ false →
    ((entries : List Entry) → Stands was.din entries (so_far entries) → may ≡ may_run (last_of entries)) →
    now ≡ record was { head = head.Spent } → Reads was now input input (Notes at LoneStamp ∷ [])
lone_law_any was now input at low may a some first l is_no law n = by input some first
  where
    by : (input : List ℕ) → 0 < length input → ((b : ℕ) (bs : List ℕ) → input ≡ b ∷ bs → nat_lt b 128 ≡ low) →
        Reads was now input input (Notes at LoneStamp ∷ [])
    by [] some first = absurd (omega arith)
    by (b ∷ bs) some first = lone_law was now (b ∷ bs) bs b at may refl a (first b bs refl ∙ l) is_no law n
