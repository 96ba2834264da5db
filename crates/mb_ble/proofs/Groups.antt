-- A byte handed to the reader of groups.
use Rattle.std.proofs.Common.{◌≡◌, ℕ, ◌+◌, Bool, true, false, Option, Some, None, List, [], ◌∷◌, ◌++◌, length, refl, ap}
use Rattle.std.proofs.Common.{ap₂, sym, subst, ◌∙◌, arith, append_assoc, append-nil, inl, inr}
use Rattle.std.specs.Prelude.{if◌then◌else◌, ◌||◌, ◌⊎◌}
use Rattle.mb_ble.proofs.Base.{cancel, last_of-append, told-all}
use Rattle.mb_din.specs.Reader.{Stands, IsAhead, DinGoes}
use Rattle.mb_din.specs.State.{State, state_of}
use Rattle.mb_stream.specs.Order.{Each}
use Rattle.mb_stream.specs.Groups.{last_of}
use Rattle.mb_stream.specs.Payload.{Spot, Entry, Heard, Silent, heard_from}
use Rattle.mb_stream.specs.Reading.{so_far}
use Rattle.mb_stream.specs.Told.{Told, Known}
use Rattle.mb_stream.specs.Working.{news}
use Rattle.mb_ble.specs.Packets.{is_full, resumed}
use Rattle.mb_ble.specs.Content.{is_common, Hands, Resumes}
use Rattle.mb_ble.specs.Stands.{AreEarly}
use Rattle.mb_ble.proofs.Fronts.{Fact, facts, push_one, push_silent, front-off, each-front, common-append}
use Rattle.mb_ble.proofs.Full.{tolds, tolds-append, full_law}
use Rattle.mb_message.specs.Front.{IsFront}

-- what the reader of groups told of one byte that was handed to it
pub record Dined (now : State) (left : List ℕ) (seen : List Told) (es : List Entry) (early : List Known) (x : Spot) :
    Type 0 where
  pub fresh : List Known
  pub answer_is : tolds fresh ≡ seen
  pub front : IsFront (early ++ fresh) (news (last_of es) x)
  pub kept : left ≡ x.byte ∷ [] → Stands now es (so_far es ++ (early ++ fresh)) × (now.offset ≡ x.at) × AreEarly x.at
      (early ++ fresh)
  pub taken : left ≡ [] → Stands now (es ++ Heard x ∷ []) (so_far (es ++ Heard x ∷ [])) × (now.offset ≡ x.at + 1) ×
      (early ++ fresh ≡ news (last_of es) x)

are-early : (x : Spot) (ks : List Known) (now was : State) → Each (Fact x) ks → IsAhead now was ks → AreEarly x.at ks
are-early x [] now was f a = tt
are-early x (k ∷ []) now was f a = ((f.0.at, f.0.rank, a.2), tt)
are-early x (k ∷ l ∷ ks) now was f a = absurd a

pub one-taken : (b : ℕ) (taken left : List ℕ) → b ∷ [] ≡ taken ++ left → ((taken ≡ []) × (left ≡ b ∷ [])) ⊎
    ((taken ≡ b ∷ []) × (left ≡ []))
one-taken b [] left e = inl (refl, sym e)
one-taken b (y ∷ []) left e = inr (ap (λ z. z ∷ []) (sym (heads b y [] left e)), sym (tails b y [] left e))
  where
    heads : (a c : ℕ) (xs ys : List ℕ) → a ∷ xs ≡ c ∷ ys → a ≡ c
    heads a c xs ys e = cc

    tails : (a c : ℕ) (xs ys : List ℕ) → a ∷ xs ≡ c ∷ ys → xs ≡ ys
    tails a c xs ys e = cc
one-taken b (y ∷ z ∷ ys) left e = absurd (more b y z (ys ++ left) e)
  where
    more : (b y z : ℕ) (ys : List ℕ) → b ∷ [] ≡ y ∷ z ∷ ys → ⊥
    more b y z ys e = cc

pub dined : (was now : State) (left : List ℕ) (seen : List Told) (es : List Entry) (early : List Known) (x : Spot) →
    Hands was now x.at (x.byte ∷ []) left seen → Stands was es (so_far es ++ early) →
    (early ≡ []) ⊎ (was.offset ≡ x.at) → IsFront early (news (last_of es) x) → Dined now left seen es early x
dined was now left seen es early x hands st here front =
    let told : List Known = so_far es ++ early in
    let placed : Stands hands.placed es told = hands.place es told (how here) st in
    let push : so_far (es ++ Heard x ∷ []) ≡ so_far es ++ news (last_of es) x = push_one es x hands.placed.offset
    placed.rises (omega (arith, hands.there)) in
    let at_x : heard_from hands.placed.offset x.moment (x.byte ∷ []) ≡ Heard x ∷ [] =
    ap (λ n. Heard (record { at = n; byte = x.byte; moment = x.moment }) ∷ []) hands.there in
    let whole : IsFront told (so_far (es ++ Heard x ∷ [])) = (
      front.0,
      push ∙ ap (λ z. so_far es ++ z) front.1 ∙
          sym (append_assoc (so_far es) early front.0),
    ) in
    let g : DinGoes hands.placed now x.moment (x.byte ∷ []) left seen es told (Heard x ∷ []) =
    subst (λ z. DinGoes hands.placed now x.moment (x.byte ∷ []) left seen es told z) at_x (hands.next x.moment es told
    placed (subst (λ z. IsFront told (so_far (es ++ z))) (sym at_x) whole)) in
    let same : told ++ g.fresh ≡ so_far es ++ (early ++ g.fresh) = append_assoc (so_far es) early g.fresh in
    let still : IsFront (early ++ g.fresh) (news (last_of es) x) = front-off (so_far es) (early ++ g.fresh)
    (news (last_of es) x) (subst (λ z. IsFront z (so_far es ++ news (last_of es) x)) same
    (subst (λ z. IsFront (told ++ g.fresh) z) push g.still)) in
    by told placed push at_x g same still (one-taken x.byte g.taken left g.front)
  where
    how : (early ≡ []) ⊎ (was.offset ≡ x.at) → (was.offset ≡ x.at) ⊎ (so_far es ++ early ≡ so_far es)
    how (inl e) = inr (ap (λ z. so_far es ++ z) e ∙ append-nil (so_far es))
    how (inr e) = inl e

    nil_cons : (b : ℕ) → [] ≡ b ∷ [] → ⊥
    nil_cons b e = cc

    by : (told : List Known) (placed : Stands hands.placed es told) → so_far (es ++ Heard x ∷ []) ≡ so_far es ++
        news (last_of es) x → heard_from hands.placed.offset x.moment (x.byte ∷ []) ≡ Heard x ∷ [] →
        (g : DinGoes hands.placed now x.moment (x.byte ∷ []) left seen es told (Heard x ∷ [])) → told ++
        g.fresh ≡ so_far es ++ (early ++ g.fresh) → IsFront (early ++ g.fresh) (news (last_of es) x) →
        ((g.taken ≡ []) × (left ≡ x.byte ∷ [])) ⊎ ((g.taken ≡ x.byte ∷ []) × (left ≡ [])) →
        Dined now left seen es early x
    by told placed push at_x g same still (inl t) =
        let s0 : Stands now (es ++ heard_from hands.placed.offset x.moment []) (told ++ g.fresh) =
        subst (λ z. Stands now (es ++ heard_from hands.placed.offset x.moment z) (told ++ g.fresh)) t.0 g.stands in
        let s1 : Stands now es (so_far es ++ (early ++ g.fresh)) = subst (λ z. Stands now es z) same
        (subst (λ z. Stands now z (told ++ g.fresh)) (append-nil es) s0) in
        let f : Each (Fact x) (early ++ g.fresh) = each-front (Fact x) (early ++ g.fresh) still.0
        (subst (Each (Fact x)) still.1 (facts (last_of es) x)) in
        let a : s1.ahead ≡ early ++ g.fresh = cancel (so_far es) s1.ahead (early ++ g.fresh) (sym s1.told_is) in
        record {
          fresh = g.fresh;
          answer_is = g.answer_is;
          front = still;
          kept = λ e. (
            s1,
            zero-more now.offset x.at (ap (λ z. now.offset + length z) (sym t.1) ∙ hands.offset),
            are-early x (early ++ g.fresh) now (state_of now.offset (last_of es)) f
                (subst (IsAhead now (state_of now.offset (last_of es))) a s1.state),
          );
          taken = λ e. absurd (nil_cons x.byte (sym e ∙ t.1));
        }
      where
        zero-more : (m n : ℕ) → m + length (x.byte ∷ []) ≡ n + length (x.byte ∷ []) → m ≡ n
        zero-more m n e = omega (arith, e)
    by told placed push at_x g same still (inr t) =
        let s0 : Stands now (es ++ Heard x ∷ []) (told ++ g.fresh) = subst (λ z. Stands now (es ++ z) (told ++ g.fresh))
        (ap (λ z. heard_from hands.placed.offset x.moment z) t.0 ∙ at_x) g.stands in
        let all : told ++ g.fresh ≡ so_far (es ++ Heard x ∷ []) = told-all now (es ++ Heard x ∷ []) (told ++ g.fresh) s0
        g.still in
        record {
          fresh = g.fresh;
          answer_is = g.answer_is;
          front = still;
          kept = λ e. absurd (nil_cons x.byte (sym t.1 ∙ e));
          taken = λ e. (
            subst (λ z. Stands now (es ++ Heard x ∷ []) z) all s0,
            one-more now.offset x.at (ap (λ z. now.offset + length z) (sym t.1) ∙ hands.offset),
            cancel (so_far es) (early ++ g.fresh) (news (last_of es) x) (sym same ∙ all ∙ push),
          );
        }
      where
        one-more : (m n : ℕ) → m + length {A = ℕ} [] ≡ n + length (x.byte ∷ []) → m ≡ n + 1
        one-more m n e = omega (arith, e)

-- what was told ahead is no System Common message
early-quiet : (x : Spot) (ks : List Known) → Each (Fact x) ks → AreEarly x.at ks → is_common (tolds ks) ≡ false
early-quiet x [] f e = refl
early-quiet x (k ∷ ks) f e = common-append (k.told ∷ []) (tolds ks) ∙ ap (λ c. c || is_common (tolds ks))
    (f.0.common e.0.2) ∙ early-quiet x ks f.1 e.1

-- the message is whole exactly where its Short was seen
pub full_seen : (es : List Entry) (x : Spot) (early fresh : List Known) (seen : List Told) → is_full (last_of es) ≡
    false → AreEarly x.at early → early ++ fresh ≡ news (last_of es) x → tolds fresh ≡ seen →
    is_full (last_of (es ++ Heard x ∷ [])) ≡ is_common seen
full_seen es x early fresh seen none are all same =
    let f : Each (Fact x) early = each-front (Fact x) early fresh (subst (Each (Fact x)) (sym all)
    (facts (last_of es) x)) in
    ap is_full (last_of-append es (Heard x ∷ [])) ∙ full_law (last_of es) x none
    ∙ ap (λ z. is_common (tolds z)) (sym all) ∙ ap is_common (tolds-append early fresh) ∙
    common-append (tolds early) (tolds fresh)
    ∙ ap₂ (λ a b. a || is_common b) (early-quiet x early f are) same

-- the status that runs goes on
pub resumes_law : (run : Option ℕ) (common : Bool) (was now : State) (es : List Entry) → Resumes run common was now →
    ((s : ℕ) → run ≡ Some s → is_full (last_of es) ≡ common) → Stands was es (so_far es) →
    Stands now (resumed run es) (so_far (resumed run es)) × (now.offset ≡ was.offset)
resumes_law None common was now es r full st = (subst (λ z. Stands z es (so_far es)) (sym r) st, ap (λ z. z.offset) r)
resumes_law (Some s) true was now es r full st = (
  subst (λ c. Stands now (if c then es ++ Silent s ∷ [] else es) (so_far (if c then es ++ Silent s ∷ [] else es)))
      (sym (full s refl)) (subst (λ z. Stands now (es ++ Silent s ∷ []) z)
      (sym (push_silent es s was.offset st.rises)) (r.1 es st)),
  r.0,
)
resumes_law (Some s) false was now es r full st = (
  subst (λ c. Stands now (if c then es ++ Silent s ∷ [] else es) (so_far (if c then es ++ Silent s ∷ [] else es)))
      (sym (full s refl)) (subst (λ z. Stands z es (so_far es)) (sym r) st),
  ap (λ z. z.offset) r,
)
