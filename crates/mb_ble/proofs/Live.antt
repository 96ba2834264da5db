-- What a writer has written, and what is under way.
use Rattle.std.proofs.Common.{◌≡◌, ℕ, ◌+◌, ◌<◌, Bool, true, false, Option, List, [], ◌∷◌, ◌++◌, length, refl, ap, sym}
use Rattle.std.proofs.Common.{subst, ◌∙◌, arith, append_assoc}
use Rattle.std.specs.Prelude.{not, ◌==◌, if◌then◌else◌, reverse, flat_map}
use Rattle.std.specs.List.{AllByRecursion}
use Rattle.std.proofs.lemmas.List.{append-nil, reverse-reverse, length-append}
use Rattle.std.proofs.lemmas.Bool.Decides.{nat_tests}
use Rattle.mb_message.specs.Signs.{Sign, ShortSign, RtSign, OpenSign, ByteSign, EndSign, AbortSign}
use Rattle.mb_clock.specs.Stamps.{lower_seven}
use Rattle.mb_stream.specs.Puts.{Put, At, Flush, puts_at}
use Rattle.mb_stream.specs.Spelling.{data_of}
use Rattle.mb_ble.specs.Written.{Spelled, in_front, runs, is_left_out, spelling, spelling_at, content, ends}
use Rattle.mb_ble.specs.Written.{packets_from, packets, packet_bytes, ended, but_last, live_of, ble_written, ble_live}
use Rattle.mb_ble.specs.Running.{flushed, given_at, under_way_at, live_from, under_way_from, live, under_way}
use Rattle.mb_ble.specs.UnderWay.{OpenPacket, nothing, packet_of, Holds, ends_in, flushed_in, added, is_abort}
use Rattle.mb_ble.specs.UnderWay.{after_mark, given_in, spelled_at, after_all, given_all}

abbrev NoAbort : List Spelled → Type 0
NoAbort before = AllByRecursion (λ (x : Spelled). is_abort x.mark ≡ false) before

true≢false : true ≡ false → ⊥
true≢false e = cc

some_spelled : (running : Option ℕ) (moment : ℕ) (mark : Sign) → is_abort mark ≡ false →
    0 < length (spelling_at running (record { moment = moment; mark = mark }))
some_spelled running moment (ShortSign s d1 d2) e = some_status (is_left_out running s) (128 + lower_seven moment) s
    (data_of s d1 d2)
  where
    some_status : (b : Bool) (first s : ℕ) (rest : List ℕ) → 0 < length ((first ∷ (if b then [] else s ∷ [])) ++ rest)
    some_status true first s rest = omega arith
    some_status false first s rest = omega arith
some_spelled running moment (RtSign r) e = omega arith
some_spelled running moment OpenSign e = omega arith
some_spelled running moment (ByteSign b) e = omega arith
some_spelled running moment EndSign e = omega arith
some_spelled running moment AbortSign e = absurd (true≢false e)

some_content : (y : Spelled) (before : List Spelled) → is_abort y.mark ≡ false →
    not (length (content (y ∷ before)) == 0) ≡ true
some_content y before e =
    let long : 0 < length (spelling before y) = some_spelled _ y.moment y.mark e in
    let sum : length (content before ++ spelling before y) ≡ length (content before) + length (spelling before y) =
    grind (arith, length-append) in
    grind (arith, nat_tests)

ends_same : (n : ℕ) (before : List Spelled) (x : Spelled) → NoAbort before → ends_in (packet_of n before) x ≡
    ends n before x
ends_same n [] x none = refl
ends_same n (y ∷ before) x none = rw (some_content y before none.0) refl

flushed_same : (n : ℕ) (before : List Spelled) → NoAbort before → flushed_in (packet_of n before) ≡ flushed before
flushed_same n [] none = refl
flushed_same n (y ∷ before) none = rw (some_content y before none.0) refl

pub at_abort : (n : ℕ) (before : List Spelled) (moment : ℕ) (mark : Sign) → is_abort mark ≡ true →
    (under_way_at n before (At moment mark) ≡ before) × (given_at n before (At moment mark) ≡ [])
at_abort n before moment (ShortSign s d1 d2) e = absurd (true≢false (sym e))
at_abort n before moment (RtSign r) e = absurd (true≢false (sym e))
at_abort n before moment OpenSign e = absurd (true≢false (sym e))
at_abort n before moment (ByteSign b) e = absurd (true≢false (sym e))
at_abort n before moment EndSign e = absurd (true≢false (sym e))
at_abort n before moment AbortSign e = (refl, refl)

-- a mark that is spelled
pub at_spelled : (n : ℕ) (before : List Spelled) (moment : ℕ) (mark : Sign) → is_abort mark ≡ false →
    (under_way_at n before (At moment mark) ≡ (if ends n before (record { moment = moment; mark = mark }) then
    record { moment = moment; mark = mark } ∷ [] else record { moment = moment; mark = mark } ∷ before))
    × (given_at n before (At moment mark) ≡ (if ends n before (record { moment = moment; mark = mark }) then
    flushed before else []))
at_spelled n before moment (ShortSign s d1 d2) e = (refl, refl)
at_spelled n before moment (RtSign r) e = (refl, refl)
at_spelled n before moment OpenSign e = (refl, refl)
at_spelled n before moment (ByteSign b) e = (refl, refl)
at_spelled n before moment EndSign e = (refl, refl)
at_spelled n before moment AbortSign e = absurd (true≢false e)

NoAbort-at : (n : ℕ) (before : List Spelled) (put : Put) → NoAbort before → NoAbort (under_way_at n before put)
NoAbort-at n before Flush none = tt
NoAbort-at n before (At moment mark) none = by_mark (is_abort mark) refl
  where
    x : Spelled
    x = record { moment = moment; mark = mark }

    put_in : (b : Bool) → is_abort mark ≡ false → NoAbort (if b then record { moment = moment; mark = mark } ∷ [] else
        record { moment = moment; mark = mark } ∷ before)
    put_in true e = (e, tt)
    put_in false e = (e, none)

    by_mark : (b : Bool) → is_abort mark ≡ b → NoAbort (under_way_at n before (At moment mark))
    by_mark false e = subst NoAbort (sym (at_spelled n before moment mark e).0)
        (put_in (ends n before (record { moment = moment; mark = mark })) e)
    by_mark true e = subst NoAbort (sym (at_abort n before moment mark e).0) none

NoAbort-from : (n : ℕ) (before : List Spelled) (puts : List Put) → NoAbort before →
    NoAbort (under_way_from n before puts)
NoAbort-from n before [] none = none
NoAbort-from n before (put ∷ puts) none = NoAbort-from n (under_way_at n before put) puts (NoAbort-at n before put none)

-- one more
pub under_way-push : (n : ℕ) (before : List Spelled) (puts : List Put) (put : Put) → under_way_from n before (puts ++
    put ∷ []) ≡ under_way_at n (under_way_from n before puts) put
under_way-push n before [] put = refl
under_way-push n before (p ∷ puts) put = under_way-push n (under_way_at n before p) puts put

pub live-push : (n : ℕ) (before : List Spelled) (puts : List Put) (put : Put) → live_from n before (puts ++ put ∷ []) ≡
    live_from n before puts ++ given_at n (under_way_from n before puts) put
live-push n before [] put = append-nil (given_at n before put)
live-push n before (p ∷ puts) put =
    ap (λ z. given_at n before p ++ z) (live-push n (under_way_at n before p) puts put) ∙
    sym (append_assoc (given_at n before p) (live_from n (under_way_at n before p) puts)
    (given_at n (under_way_from n (under_way_at n before p) puts) put))

-- a mark in a writer and in its packet
mark_in : (n : ℕ) (before : List Spelled) (moment : ℕ) (mark : Sign) (b : Bool) → is_abort mark ≡ b → NoAbort before →
    let x : Spelled = record { moment = moment; mark = mark } in
    (after_mark (packet_of n before) x ≡ packet_of n (under_way_at n before (At moment mark))) ×
    (given_in (packet_of n before) x ≡ given_at n before (At moment mark))
mark_in n before moment mark true e none = (
  rw e (ap (packet_of n) (sym (at_abort n before moment mark e).0)),
  rw e (sym (at_abort n before moment mark e).1),
)
mark_in n before moment mark false e none =
    let x : Spelled = record { moment = moment; mark = mark } in
    let same : ends_in (packet_of n before) x ≡ ends n before x = ends_same n before x none in (
      rw (e, same) (spelled_in (ends n before x) x ∙ ap (packet_of n) (sym (at_spelled n before moment mark e).0)),
      rw (e, same) (ap (λ z. if ends n before x then z else []) (flushed_same n before none) ∙
          sym (at_spelled n before moment mark e).1),
    )
  where
    spelled_in : (b : Bool) (x : Spelled) → (if b then added (nothing n) x else added (packet_of n before) x) ≡
        packet_of n (if b then x ∷ [] else x ∷ before)
    spelled_in true x = refl
    spelled_in false x = refl

pub first : (size : ℕ) → Holds (nothing size) []
first size = record { packet = refl }

pub marked : (old : OpenPacket) (puts : List Put) (moment : ℕ) (mark : Sign) → Holds old puts → let x : Spelled =
    record { moment = moment; mark = mark } in
    Holds (after_mark old x) (puts ++ At moment mark ∷ []) × (live old.size (puts ++ At moment mark ∷ []) ≡
    live old.size puts ++ given_in old x)
marked old puts moment mark stands =
    let n : ℕ = old.size in
    let before : List Spelled = under_way n puts in
    let x : Spelled = record { moment = moment; mark = mark } in
    let step = mark_in n before moment mark (is_abort mark) refl (NoAbort-from n [] puts tt) in
    let state : after_mark old x ≡ packet_of n (under_way n (puts ++ At moment mark ∷ [])) =
    ap (λ w. after_mark w x) stands.packet ∙ step.0 ∙ ap (packet_of n)
    (sym (under_way-push n [] puts (At moment mark))) in
    let size : (after_mark old x).size ≡ n = ap (λ (w : OpenPacket). w.size) state in (
      record { packet = state ∙ ap (λ k. packet_of k (under_way k (puts ++ At moment mark ∷ []))) (sym size) },
      live-push n [] puts (At moment mark) ∙ ap (λ z. live n puts ++ z) (sym (ap (λ w. given_in w x) stands.packet ∙
          step.1)),
    )

pub flush : (old : OpenPacket) (puts : List Put) → Holds old puts →
    Holds (nothing old.size) (puts ++ Flush ∷ []) × (live old.size (puts ++ Flush ∷ []) ≡ live old.size puts ++
    flushed_in old)
flush old puts stands =
    let n : ℕ = old.size in (
      record { packet = ap (packet_of n) (sym (under_way-push n [] puts Flush)) },
      live-push n [] puts Flush ∙ ap (λ z. live n puts ++ z) (sym (ap flushed_in stands.packet ∙
          flushed_same n (under_way n puts) (NoAbort-from n [] puts tt))),
    )

pair : {a b : List ℕ} {c d : List Spelled} → a ≡ b → c ≡ d → ◌≡◌ {A = List ℕ × List Spelled} (a, c) (b, d)
pair {a = a} {b = b} {c = c} {d = d} e f = ap (λ x. (x, c)) e ∙ ap (λ y. (b, y)) f

-- by runs
abbrev bytes_of : List (List Spelled) → List ℕ
bytes_of ps = flat_map packet_bytes ps

abbrev of_runs : ℕ → List Spelled → List (List Spelled) → List ℕ
of_runs n before [] = []
of_runs n before (run ∷ rest) = bytes_of (packets_from n before run) ++ flat_map (λ r. bytes_of (packets n r)) rest

bytes-end : (n : ℕ) (before : List Spelled) → bytes_of (packets_from n before []) ≡ flushed before
bytes-end n [] = refl
bytes-end n (y ∷ before) = append-nil (packet_bytes (reverse (y ∷ before))) ∙ ap ended (reverse-reverse (y ∷ before))

of_runs-front : (n : ℕ) (before : List Spelled) (x : Spelled) (run : List Spelled) (rest : List (List Spelled))
    (b : Bool) → ends n before x ≡ b →
    of_runs n before ((x ∷ run) ∷ rest) ≡ (if b then flushed before else []) ++
    of_runs n (if b then x ∷ [] else x ∷ before) (run ∷ rest)
of_runs-front n before x run rest false e =
    ap (λ b. bytes_of (if b then reverse before ∷ packets_from n (x ∷ []) run else packets_from n (x ∷ before) run) ++
    flat_map (λ r. bytes_of (packets n r)) rest) e
of_runs-front n [] x run rest true e = absurd (true≢false (sym e))
of_runs-front n (y ∷ before) x run rest true e =
    let others : List ℕ = flat_map (λ r. bytes_of (packets n r)) rest in
    let more : List ℕ = bytes_of (packets_from n (x ∷ []) run) in
    ap (λ b. bytes_of (if b then reverse (y ∷ before) ∷ packets_from n (x ∷ []) run else packets_from n (x ∷ y ∷ before)
    run) ++ others) e
    ∙ append_assoc (packet_bytes (reverse (y ∷ before))) more others ∙ ap (λ p. ended p ++ (more ++ others))
    (reverse-reverse (y ∷ before))

runs-abort : (moment : ℕ) (mark : Sign) (puts : List Put) → is_abort mark ≡ true → runs (At moment mark ∷ puts) ≡
    runs puts
runs-abort moment (ShortSign s d1 d2) puts e = absurd (true≢false (sym e))
runs-abort moment (RtSign r) puts e = absurd (true≢false (sym e))
runs-abort moment OpenSign puts e = absurd (true≢false (sym e))
runs-abort moment (ByteSign b) puts e = absurd (true≢false (sym e))
runs-abort moment EndSign puts e = absurd (true≢false (sym e))
runs-abort moment AbortSign puts e = refl

runs-spelled : (moment : ℕ) (mark : Sign) (puts : List Put) → is_abort mark ≡ false → runs (At moment mark ∷ puts) ≡
    in_front (record { moment = moment; mark = mark }) (runs puts)
runs-spelled moment (ShortSign s d1 d2) puts e = refl
runs-spelled moment (RtSign r) puts e = refl
runs-spelled moment OpenSign puts e = refl
runs-spelled moment (ByteSign b) puts e = refl
runs-spelled moment EndSign puts e = refl
runs-spelled moment AbortSign puts e = absurd (true≢false e)

no_cons : {A : Type 0} (x : A) (xs : List A) → x ∷ xs ≡ [] → ⊥
no_cons x xs e = cc

in_front-some : (x : Spelled) (rs : List (List Spelled)) → in_front x rs ≡ [] → ⊥
in_front-some x [] e = no_cons _ _ e
in_front-some x (run ∷ rest) e = no_cons _ _ e

runs-some : (puts : List Put) → runs puts ≡ [] → ⊥
runs-some [] e = no_cons _ _ e
runs-some (Flush ∷ puts) e = no_cons _ _ e
runs-some (At moment mark ∷ puts) e = by_mark (is_abort mark) refl (runs-some puts)
  where
    by_mark : (b : Bool) → is_abort mark ≡ b → (runs puts ≡ [] → ⊥) → ⊥
    by_mark true a ih = ih (sym (runs-abort moment mark puts a) ∙ e)
    by_mark false a ih = in_front-some _ (runs puts) (sym (runs-spelled moment mark puts a) ∙ e)

of_runs-in_front : (n : ℕ) (before : List Spelled) (x : Spelled) (rs : List (List Spelled)) → (rs ≡ [] → ⊥) →
    of_runs n before (in_front x rs) ≡ (if ends n before x then flushed before else []) ++
    of_runs n (if ends n before x then x ∷ [] else x ∷ before) rs
of_runs-in_front n before x [] some = absurd (some refl)
of_runs-in_front n before x (run ∷ rest) some = of_runs-front n before x run rest (ends n before x) refl

of_runs-nil : (n : ℕ) (rs : List (List Spelled)) → flat_map (λ r. bytes_of (packets n r)) rs ≡ of_runs n [] rs
of_runs-nil n [] = refl
of_runs-nil n (run ∷ rest) = refl

join : (a b c d : List ℕ) → d ≡ b ++ c → a ++ d ≡ (a ++ b) ++ c
join a b c d e = ap (λ z. a ++ z) e ∙ sym (append_assoc a b c)

at_mark : (n : ℕ) (before : List Spelled) (moment : ℕ) (mark : Sign) (puts : List Put) (b : Bool) → is_abort mark ≡ b →
    ((p : List Spelled) → of_runs n p (runs puts) ≡ live_from n p puts ++ flushed (under_way_from n p puts)) →
    of_runs n before (runs (At moment mark ∷ puts)) ≡ live_from n before (At moment mark ∷ puts) ++
    flushed (under_way_from n before (At moment mark ∷ puts))
at_mark n before moment mark puts true e ih =
    ap (of_runs n before) (runs-abort moment mark puts e) ∙ ih before
    ∙ sym (ap (λ (z : List ℕ × List Spelled). (z.0 ++ live_from n z.1 puts) ++ flushed (under_way_from n z.1 puts))
    (pair (at_abort n before moment mark e).1 (at_abort n before moment mark e).0))
at_mark n before moment mark puts false e ih =
    let x : Spelled = record { moment = moment; mark = mark } in
    let given : List ℕ = if ends n before x then flushed before else [] in
    let next : List Spelled = if ends n before x then x ∷ [] else x ∷ before in
    ap (of_runs n before) (runs-spelled moment mark puts e) ∙ of_runs-in_front n before x (runs puts) (runs-some puts)
    ∙ join given (live_from n next puts) (flushed (under_way_from n next puts)) _ (ih next)
    ∙ sym (ap (λ (z : List ℕ × List Spelled). (z.0 ++ live_from n z.1 puts) ++ flushed (under_way_from n z.1 puts))
    (pair (at_spelled n before moment mark e).1 (at_spelled n before moment mark e).0))

of_runs-all : (n : ℕ) (puts : List Put) (before : List Spelled) → of_runs n before (runs puts) ≡ live_from n before
    puts ++ flushed (under_way_from n before puts)
of_runs-all n [] before = append-nil (bytes_of (packets_from n before [])) ∙ bytes-end n before
of_runs-all n (Flush ∷ puts) before =
    ap (λ z. z ++ flat_map (λ r. bytes_of (packets n r)) (runs puts)) (bytes-end n before)
    ∙ join (flushed before) (live_from n [] puts) (flushed (under_way_from n [] puts)) _ (of_runs-nil n (runs puts) ∙
    of_runs-all n puts [])
of_runs-all n (At moment mark ∷ puts) before = at_mark n before moment mark puts (is_abort mark) refl
    (of_runs-all n puts)

-- all that is written is what was written so far and the packet under way
pub finish : (old : OpenPacket) (puts : List Put) → Holds old puts → ble_written old.size puts ≡ live old.size puts ++
    flushed_in old
finish old puts stands =
    let n : ℕ = old.size in
    of_runs-nil n (runs puts) ∙ of_runs-all n puts []
    ∙ ap (λ z. live n puts ++ z) (sym (ap flushed_in stands.packet ∙ flushed_same n (under_way n puts)
    (NoAbort-from n [] puts tt)))

-- several marks of one moment
puts-more : (puts : List Put) (moment : ℕ) (m : Sign) (ms : List Sign) → (puts ++ At moment m ∷ []) ++
    puts_at moment ms ≡ puts ++ puts_at moment (m ∷ ms)
puts-more puts moment m ms = append_assoc puts (At moment m ∷ []) (puts_at moment ms)

size_same : (w : OpenPacket) (moment : ℕ) (m : Sign) → (after_mark w (spelled_at moment m)).size ≡ w.size
size_same w moment m = by (is_abort m) (ends_in w (spelled_at moment m))
  where
    by : (a e : Bool) → (if a then w else (if e then added (nothing w.size) (spelled_at moment m) else
        added w (spelled_at moment m))).size ≡ w.size
    by true e = refl
    by false true = refl
    by false false = refl

pub size_all : (w : OpenPacket) (moment : ℕ) (ms : List Sign) → (after_all w moment ms).size ≡ w.size
size_all w moment [] = refl
size_all w moment (m ∷ ms) = size_all (after_mark w (spelled_at moment m)) moment ms ∙ size_same w moment m

pub all_hold : (old : OpenPacket) (puts : List Put) (moment : ℕ) (ms : List Sign) → Holds old puts →
    Holds (after_all old moment ms) (puts ++ puts_at moment ms) × ((after_all old moment ms).size ≡ old.size) ×
    (live old.size (puts ++ puts_at moment ms) ≡ live old.size puts ++ given_all old moment ms)
all_hold old puts moment [] h = (
  subst (Holds old) (sym (append-nil puts)) h,
  refl,
  ap (live old.size) (append-nil puts) ∙ sym (append-nil (live old.size puts)),
)
all_hold old puts moment (m ∷ ms) h =
    let one = marked old puts moment m h in
    let next : OpenPacket = after_mark old (spelled_at moment m) in
    let size : next.size ≡ old.size = size_same old moment m in
    let more = all_hold next (puts ++ At moment m ∷ []) moment ms one.0 in (
      subst (Holds (after_all next moment ms)) (puts-more puts moment m ms) more.0,
      more.1 ∙ size,
      ap (live old.size) (sym (puts-more puts moment m ms))
          ∙ ap (λ n. live n ((puts ++ At moment m ∷ []) ++ puts_at moment ms)) (sym size)
          ∙ more.2
          ∙ ap (λ n. live n (puts ++ At moment m ∷ []) ++ given_all next moment ms) size
          ∙ ap (λ z. z ++ given_all next moment ms) one.1
          ∙ append_assoc (live old.size puts) (given_in old (spelled_at moment m)) (given_all next moment ms),
    )

-- The live part as the definition has it, by what stands between flushes.
abbrev live_runs : ℕ → List Spelled → List (List Spelled) → List ℕ
live_runs n before [] = []
live_runs n before (run ∷ []) = bytes_of (but_last (packets_from n before run))
live_runs n before (run ∷ next ∷ rest) = bytes_of (packets_from n before run) ++ live_of n (next ∷ rest)

live_runs-nil : (n : ℕ) (rs : List (List Spelled)) → live_of n rs ≡ live_runs n [] rs
live_runs-nil n [] = refl
live_runs-nil n (run ∷ []) = refl
live_runs-nil n (run ∷ next ∷ rest) = refl

but_last-behind : (p : List Spelled) (ps : List (List Spelled)) → (ps ≡ [] → ⊥) → but_last (p ∷ ps) ≡ p ∷ but_last ps
but_last-behind p [] some = absurd (some refl)
but_last-behind p (q ∷ ps) some = refl

packets-some : (n : ℕ) (x : Spelled) (late run : List Spelled) → packets_from n (x ∷ late) run ≡ [] → ⊥
packets-some n x late [] e = no_cons _ _ e
packets-some n x late (y ∷ run) e = by (ends n (x ∷ late) y) (packets-some n y (x ∷ late) run) e
  where
    by : (b : Bool) → (packets_from n (y ∷ x ∷ late) run ≡ [] → ⊥) →
        (if b then reverse (x ∷ late) ∷ packets_from n (y ∷ []) run else packets_from n (y ∷ x ∷ late) run) ≡ [] → ⊥
    by true some e = no_cons _ _ e
    by false some e = some e

-- the packets of a run whose first spelling ends the one under way
ended-first : (n : ℕ) (y : Spelled) (before : List Spelled) (x : Spelled) (run : List Spelled) → ends n (y ∷ before) x ≡
    true →
    packets_from n (y ∷ before) (x ∷ run) ≡ reverse (y ∷ before) ∷ packets_from n (x ∷ []) run
ended-first n y before x run e = ap (λ b. if b then reverse (y ∷ before) ∷ packets_from n (x ∷ []) run else packets_from
    n (x ∷ y ∷ before) run) e

goes_on-first : (n : ℕ) (before : List Spelled) (x : Spelled) (run : List Spelled) → ends n before x ≡ false →
    packets_from n before (x ∷ run) ≡ packets_from n (x ∷ before) run
goes_on-first n before x run e = ap (λ b. if b then reverse before ∷ packets_from n (x ∷ []) run else packets_from n
    (x ∷ before) run) e

live_runs-front : (n : ℕ) (before : List Spelled) (x : Spelled) (run : List Spelled) (rest : List (List Spelled))
    (b : Bool) → ends n before x ≡ b →
    live_runs n before ((x ∷ run) ∷ rest) ≡ (if b then flushed before else []) ++
    live_runs n (if b then x ∷ [] else x ∷ before) (run ∷ rest)
live_runs-front n before x run [] false e = ap (λ ps. bytes_of (but_last ps)) (goes_on-first n before x run e)
live_runs-front n before x run (next ∷ rest) false e = ap (λ ps. bytes_of ps ++ live_of n (next ∷ rest))
    (goes_on-first n before x run e)
live_runs-front n [] x run rest true e = absurd (true≢false (sym e))
live_runs-front n (y ∷ before) x run [] true e =
    ap (λ ps. bytes_of (but_last ps)) (ended-first n y before x run e)
    ∙ ap bytes_of (but_last-behind (reverse (y ∷ before)) (packets_from n (x ∷ []) run) (packets-some n x [] run))
    ∙ ap (λ p. ended p ++ bytes_of (but_last (packets_from n (x ∷ []) run))) (reverse-reverse (y ∷ before))
live_runs-front n (y ∷ before) x run (next ∷ rest) true e =
    let more : List ℕ = bytes_of (packets_from n (x ∷ []) run) in
    ap (λ ps. bytes_of ps ++ live_of n (next ∷ rest)) (ended-first n y before x run e)
    ∙ append_assoc (packet_bytes (reverse (y ∷ before))) more (live_of n (next ∷ rest)) ∙
    ap (λ p. ended p ++ (more ++ live_of n (next ∷ rest))) (reverse-reverse (y ∷ before))

live_runs-in_front : (n : ℕ) (before : List Spelled) (x : Spelled) (rs : List (List Spelled)) → (rs ≡ [] → ⊥) →
    live_runs n before (in_front x rs) ≡ (if ends n before x then flushed before else []) ++
    live_runs n (if ends n before x then x ∷ [] else x ∷ before) rs
live_runs-in_front n before x [] some = absurd (some refl)
live_runs-in_front n before x (run ∷ rest) some = live_runs-front n before x run rest (ends n before x) refl

live-flush : (n : ℕ) (before : List Spelled) (rs : List (List Spelled)) → (rs ≡ [] → ⊥) → live_runs n before ([] ∷ rs) ≡
    flushed before ++ live_runs n [] rs
live-flush n before [] some = absurd (some refl)
live-flush n before (run ∷ rest) some = ap (λ z. z ++ live_of n (run ∷ rest)) (bytes-end n before) ∙
    ap (λ z. flushed before ++ z) (live_runs-nil n (run ∷ rest))

live-nothing : (n : ℕ) (before : List Spelled) → bytes_of (but_last (packets_from n before [])) ≡ []
live-nothing n [] = refl
live-nothing n (y ∷ before) = refl

live-mark : (n : ℕ) (before : List Spelled) (moment : ℕ) (mark : Sign) (puts : List Put) (b : Bool) →
    is_abort mark ≡ b →
    ((p : List Spelled) → live_runs n p (runs puts) ≡ live_from n p puts) →
    live_runs n before (runs (At moment mark ∷ puts)) ≡ live_from n before (At moment mark ∷ puts)
live-mark n before moment mark puts true e ih =
    ap (live_runs n before) (runs-abort moment mark puts e) ∙ ih before
    ∙ sym (ap (λ (z : List ℕ × List Spelled). z.0 ++ live_from n z.1 puts) (pair (at_abort n before moment mark e).1
    (at_abort n before moment mark e).0))
live-mark n before moment mark puts false e ih =
    let x : Spelled = record { moment = moment; mark = mark } in
    let given : List ℕ = if ends n before x then flushed before else [] in
    let next : List Spelled = if ends n before x then x ∷ [] else x ∷ before in
    ap (live_runs n before) (runs-spelled moment mark puts e) ∙ live_runs-in_front n before x (runs puts)
    (runs-some puts)
    ∙ ap (λ z. given ++ z) (ih next)
    ∙ sym (ap (λ (z : List ℕ × List Spelled). z.0 ++ live_from n z.1 puts) (pair (at_spelled n before moment mark e).1
    (at_spelled n before moment mark e).0))

live-all : (n : ℕ) (puts : List Put) (before : List Spelled) → live_runs n before (runs puts) ≡ live_from n before puts
live-all n [] before = live-nothing n before
live-all n (Flush ∷ puts) before = live-flush n before (runs puts) (runs-some puts) ∙ ap (λ z. flushed before ++
    z) (live-all n puts [])
live-all n (At moment mark ∷ puts) before = live-mark n before moment mark puts (is_abort mark) refl (live-all n puts)

pub live_law : (n : ℕ) (puts : List Put) → ble_live n puts ≡ live n puts
live_law n puts = live_runs-nil n (runs puts) ∙ live-all n puts []

-- all that is written is the live part and the packet under way
pub written_law : (n : ℕ) (puts : List Put) → ble_written n puts ≡ ble_live n puts ++ flushed (under_way n puts)
written_law n puts = of_runs-nil n (runs puts) ∙ of_runs-all n puts [] ∙ ap (λ z. z ++ flushed (under_way n puts))
    (sym (live_law n puts))
