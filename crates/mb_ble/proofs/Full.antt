-- A System Common message is whole exactly where its Short is told.
use Rattle.std.proofs.Common.{◌≡◌, ℕ, suc, Bool, true, false, Option, Some, None, List, [], ◌∷◌, ◌++◌, length, map}
use Rattle.std.proofs.Common.{refl, ap, sym, subst, ◌∙◌, arith, inl, inr}
use Rattle.std.specs.Prelude.{if◌then◌else◌, ◌==◌, ◌||◌, ◌&&◌, not, nat_lt, nat_le, ◌⊎◌}
use Rattle.std.proofs.lemmas.Bool.Decides.{nat_tests}
use Rattle.mb_ble.proofs.Base.{IsLen, len_lem}
use Rattle.mb_message.specs.Bytes.{is_channel, data_length, is_data, is_realtime, is_undefined_realtime}
use Rattle.mb_stream.specs.Groups.{Group, begun, longer, is_sysex}
use Rattle.mb_stream.specs.Payload.{Spot, Heard}
use Rattle.mb_stream.specs.Told.{Told, Marks, Notes, Known, known_at, odd_one, begun_at, truncated_at, sysex_ended}
use Rattle.mb_stream.specs.Told.{truncated, ended, status_told, realtime_known, sysex_byte, one_of}
use Rattle.mb_stream.specs.Working.{data_news_by, data_news, news, group_behind, pair_news, common_news}
use Rattle.mb_message.specs.Signs.{ShortSign, RtSign, OpenSign, EndSign, AbortSign}
use Rattle.mb_message.specs.declared.note.NoteKind.TheVariants.{StrayEnd, Undefined}
use Rattle.mb_ble.specs.Packets.{is_full}
use Rattle.mb_ble.specs.Content.{is_common}
use Rattle.mb_ble.proofs.Fronts.{common-append}

abbrev pub tolds : List Known → List Told
tolds ks = map (λ (k : Known). k.told) ks

pub tolds-append : (xs ys : List Known) → tolds (xs ++ ys) ≡ tolds xs ++ tolds ys
tolds-append [] ys = refl
tolds-append (x ∷ xs) ys = ap (λ z. x.told ∷ z) (tolds-append xs ys)

false≢true : false ≡ true → ⊥
false≢true e = cc

abbrev common : List Known → Bool
common ks = is_common (tolds ks)

channel-low : (s : ℕ) → is_channel s ≡ true → nat_le 0xf0 s ≡ false
channel-low s e = grind (arith, nat_tests)

two-channel : (s : ℕ) (ds : List Spot) (x : Spot) → nat_le 0xf0 s ≡ false → common (pair_news s ds x) ≡ false
two-channel s [] x e = refl
two-channel s (d ∷ ds) x e = ap (λ c. c || false) e

channel-quiet : (one : Bool) (s : ℕ) (ds : List Spot) (x : Spot) → nat_le 0xf0 s ≡ false →
    common (if one then one_of s x ∷ [] else pair_news s (odd_one ds) x) ≡ false
channel-quiet true s ds x e = ap (λ c. c || false) e
channel-quiet false s ds x e = two-channel s (odd_one ds) x e

abbrev len_full : Option ℕ → ℕ → Bool
len_full l n = elim l as (λ _. Bool) [ None ↦ false | Some k ↦ nat_le k n ]

common-full : (k s : ℕ) (ds : List Spot) (x : Spot) → (k ≡ 0) ⊎ ((k ≡ 1) ⊎ (k ≡ 2)) → nat_le 0xf0 s ≡ true →
    nat_le k (length ds) ≡ false → nat_le k (length (ds ++ x ∷ [])) ≡ common (common_news s k ds x)
common-full k s ds x (inl e) high less = absurd (zero-full k e less)
  where
    zero-full : (k : ℕ) → k ≡ 0 → nat_le k (length ds) ≡ false → ⊥
    zero-full k e less = grind (arith, nat_tests)
common-full k s [] x (inr (inl e)) high less = subst (λ k. nat_le k 1 ≡ common (common_news s k [] x)) (sym e)
    (ap (λ c. c || false) (sym high))
common-full k s (d ∷ ds) x (inr (inl e)) high less = absurd (one-full k (length ds) e less)
  where
    one-full : (k n : ℕ) → k ≡ 1 → nat_le k (suc n) ≡ false → ⊥
    one-full k n e less = grind (arith, nat_tests)
common-full k s [] x (inr (inr e)) high less = subst (λ k. nat_le k 1 ≡ common (common_news s k [] x)) (sym e) refl
common-full k s (d ∷ []) x (inr (inr e)) high less = subst (λ k. nat_le k 2 ≡ common (common_news s k (d ∷ []) x))
    (sym e) (ap (λ c. c || false) (sym high))
common-full k s (d ∷ c ∷ ds) x (inr (inr e)) high less = absurd (two-full k (length ds) e less)
  where
    two-full : (k n : ℕ) → k ≡ 2 → nat_le k (suc (suc n)) ≡ false → ⊥
    two-full k n e less = grind (arith, nat_tests)

full-by : (sysex ch : Bool) (l : Option ℕ) (s : ℕ) (ds : List Spot) (x : Spot) → (s == 0xf0) ≡ sysex →
    is_channel s ≡ ch → data_length s ≡ l → (not ch && len_full l (length ds)) ≡ false →
    (not ch && len_full l (length (ds ++ x ∷ []))) ≡ common (if sysex then sysex_byte x ∷ [] else data_news_by l ch s ds
    x)
full-by true true l s ds x a b c h = refl
full-by true false None s ds x a b c h = refl
full-by true false (Some k) s ds x a b c h = absurd (no_len s k a c)
  where
    no_len : (s k : ℕ) → (s == 0xf0) ≡ true → data_length s ≡ Some k → ⊥
    no_len s k a c = let e : s ≡ 0xf0 = grind (arith, nat_tests) in
        none_some k (subst (λ z. data_length z ≡ Some k) e c)
      where
        none_some : (k : ℕ) → None ≡ Some k → ⊥
        none_some k e = cc
full-by false true None s ds x a b c h = refl
full-by false true (Some k) s ds x a b c h = sym (channel-quiet (k == 1) s ds x (channel-low s b))
full-by false false None s ds x a b c h = refl
full-by false false (Some k) s ds x a b c h = common-full k s ds x (subst (λ z. IsLen z k) b (len_lem s k c))
    (high s k b c) h
  where
    len-high : (c o a b d h : Bool) (k : ℕ) → c ≡ false → (a ≡ true → h ≡ true) → (b ≡ true → h ≡ true) →
        (d ≡ true → h ≡ true) →
        (if c then Some (if o then 1 else 2) else (if a then Some 1 else
        (if b then Some 2 else (if d then Some 0 else None)))) ≡ Some k → h ≡ true
    len-high true o a b d h k n fa fb fd is = absurd (false≢true (sym n))
    len-high false o true b d h k n fa fb fd is = fa refl
    len-high false o false true d h k n fa fb fd is = fb refl
    len-high false o false false true h k n fa fb fd is = fd refl
    len-high false o false false false h k n fa fb fd is = absurd (none_some k is)
      where
        none_some : (k : ℕ) → None ≡ Some k → ⊥
        none_some k e = cc

    high : (s k : ℕ) → is_channel s ≡ false → data_length s ≡ Some k → nat_le 0xf0 s ≡ true
    high s k b c = len-high (is_channel s) (nat_le 192 s && nat_lt s 224) ((s == 0xf1) || (s == 0xf3)) (s == 0xf2)
        (s == 0xf6) (nat_le 0xf0 s) k b (λ e. either s e) (λ e. grind (arith, nat_tests)) (λ e.
        grind (arith, nat_tests)) c
      where
        either : (s : ℕ) → ((s == 0xf1) || (s == 0xf3)) ≡ true → nat_le 0xf0 s ≡ true
        either s e = grind (arith, nat_tests)

abbrev full_of : Option ℕ → List Spot → Bool
full_of st ds = elim st as (λ _. Bool) [
  | None ↦ false
  | Some s ↦ not (is_channel s) && len_full (data_length s)
      (length ds)
]

data-full : (st : Option ℕ) (ds : List Spot) (x : Spot) → full_of st ds ≡ false → full_of st (ds ++ x ∷ []) ≡
    common (data_news st ds x)
data-full None ds x h = refl
data-full (Some s) ds x h = full-by (s == 0xf0) (is_channel s) (data_length s) s ds x refl refl refl h

-- a status of its own
ended-quiet : (g : Group) (x : Spot) → common (ended g x) ≡ false
ended-quiet g x = ap is_common (tolds-append (truncated g x) (sysex_ended (is_sysex g) x)) ∙
    common-append (tolds (truncated g x)) (tolds (sysex_ended (is_sysex g) x)) ∙ ors (begun_at g) (x.byte == 0xf7)
    (is_sysex g)
  where
    ors : (o : Option ℕ) (e7 op : Bool) → (common (truncated_at o x)
        || common (if e7 then (if op then known_at 3 x (Marks EndSign) ∷ [] else known_at 3 x (Notes x.at StrayEnd) ∷
        []) else (if op then known_at 2 x (Marks AbortSign) ∷ [] else []))) ≡ false
    ors None true true = refl
    ors None true false = refl
    ors None false true = refl
    ors None false false = refl
    ors (Some at) true true = refl
    ors (Some at) true false = refl
    ors (Some at) false true = refl
    ors (Some at) false false = refl

status-full : (x : Spot) → (not (is_channel x.byte) && len_full (data_length x.byte) 0) ≡ common (status_told x)
status-full x = by (x.byte == 0xf0) (x.byte == 0xf6) ((x.byte == 0xf4) || (x.byte == 0xf5)) refl refl
  where
    zero-len : (c o a b d : Bool) → d ≡ false → (not c && len_full (if c then Some (if o then 1 else 2) else
        (if a then Some 1 else (if b then Some 2 else (if d then Some 0 else None)))) 0) ≡ false
    zero-len true o a b d n = refl
    zero-len false o true b d n = refl
    zero-len false o false true d n = refl
    zero-len false o false false true n = absurd (false≢true (sym n))
    zero-len false o false false false n = refl

    none : (x.byte == 0xf6) ≡ false → (not (is_channel x.byte) && len_full (data_length x.byte) 0) ≡ false
    none n = zero-len (is_channel x.byte) (nat_le 192 x.byte && nat_lt x.byte 224) ((x.byte == 0xf1) ||
        (x.byte == 0xf3)) (x.byte == 0xf2) (x.byte == 0xf6) n

    by : (a b c : Bool) → (x.byte == 0xf0) ≡ a → (x.byte == 0xf6) ≡ b →
        (not (is_channel x.byte) && len_full (data_length x.byte) 0) ≡ common (if a then known_at 3 x (Marks OpenSign) ∷
        [] else (if b then known_at 3 x (Marks (ShortSign 0xf6 0 0)) ∷ [] else
        (if c then known_at 3 x (Notes x.at Undefined) ∷ [] else [])))
    by true b c e f = none (not-both x.byte e)
      where
        not-both : (n : ℕ) → (n == 0xf0) ≡ true → (n == 0xf6) ≡ false
        not-both n e = grind (arith, nat_tests)
    by false true c e f = let is : x.byte ≡ 0xf6 = tune x.byte f in
        subst (λ n. (not (is_channel n) && len_full (data_length n) 0) ≡ true) (sym is) refl
      where
        tune : (n : ℕ) → (n == 0xf6) ≡ true → n ≡ 0xf6
        tune n e = grind (arith, nat_tests)
    by false false true e f = none f
    by false false false e f = none f

pub full_law : (g : Group) (x : Spot) → is_full g ≡ false → is_full (group_behind g (Heard x)) ≡ common (news g x)
full_law g x h = by (is_realtime x.byte) (is_data x.byte)
  where
    rt-quiet : (c : Bool) → is_common ((if c then Notes x.at Undefined else Marks (RtSign x.byte)) ∷ []) ≡ false
    rt-quiet true = refl
    rt-quiet false = refl

    by : (rt da : Bool) → is_full (if rt then g else (if da then longer g x else begun x)) ≡
        common (if rt then realtime_known x ∷ [] else (if da then data_news g.status g.data_bytes x else ended g x ++
        status_told x))
    by true da = h ∙ sym (rt-quiet (is_undefined_realtime x.byte))
    by false true = data-full g.status g.data_bytes x h
    by false false = status-full x ∙ sym (ap is_common (tolds-append (ended g x) (status_told x)) ∙
        common-append (tolds (ended g x)) (tolds (status_told x)) ∙ ap (λ c. c || common (status_told x))
        (ended-quiet g x))
