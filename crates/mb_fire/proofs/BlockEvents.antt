-- The blocks of a packet, byte by byte.
use Rattle.std.proofs.Common.{◌≡◌, ℕ, zero, suc, ◌+◌, ◌-◌, ◌*◌, ◌%◌, ◌<◌, ◌≤◌, inl, inr, Bool, true, false, ◌&&◌, ◌==◌}
use Rattle.std.proofs.Common.{nat_lt, if◌then◌else◌, Option, List, [], ◌∷◌, ◌++◌, length, map, flat_map, take, drop}
use Rattle.std.proofs.Common.{refl, sym, ◌∙◌, ap, ap₂, arith, append-nil}
use Rattle.std.proofs.lemmas.Bool.{eq-eqb, cases_lt}
use Rattle.std.proofs.lemmas.Bool.Decides.{nat_tests}
use Rattle.std.proofs.lemmas.List.{take-append-drop}
use Rattle.mb_message.specs.declared.note.NoteKind.TheVariants.{NoMidiQuadlet}
use Rattle.mb_ports.specs.Events.{Event, Remarked}
use Rattle.mb_ports.specs.Machine.{remarked, events_from, under_from}
use Rattle.mb_ports.proofs.MachineLaw.{events_from-append, under_from-append}
use Rattle.mb_fire.specs.declared.place.Place.TheVariants.{Between, Within, Passing}
use Rattle.mb_fire.specs.Packets.{Block, blocks_from, Quadlet, quadlets_from, is_midi, midi_only}
use Rattle.mb_fire.specs.Reading.{without, block_note}
use Rattle.mb_fire.specs.Under.{passed}
use Rattle.mb_fire.specs.Ports.{fire}
use Rattle.mb_fire.proofs.QuadletEvents.{U, S, Next, Goes, quadlet_events, midi_behind, end_note, quadlets-open}
use Rattle.mb_fire.proofs.QuadletEvents.{quadlets-whole, less-one}

pub take-all : (l : ℕ) (xs : List ℕ) → length xs ≤ l → take l xs ≡ xs
take-all zero [] h = refl
take-all (suc l) [] h = refl
take-all zero (x ∷ xs) h = absurd (omega arith)
take-all (suc l) (x ∷ xs) h = ap (λ z. x ∷ z) (take-all l xs (omega arith))

pub drop-all : (l : ℕ) (xs : List ℕ) → length xs ≤ l → drop l xs ≡ []
drop-all zero [] h = refl
drop-all (suc l) [] h = refl
drop-all zero (x ∷ xs) h = absurd (omega arith)
drop-all (suc l) (x ∷ xs) h = drop-all l xs (omega arith)

pub length-taken : (n : ℕ) (bs : List ℕ) → n ≤ length bs → length (take n bs) ≡ n
length-taken zero bs h = refl
length-taken (suc n) [] h = absurd (omega arith)
length-taken (suc n) (b ∷ bs) h = ap suc (length-taken n bs (omega arith))

pub length-dropped : (n : ℕ) (bs : List ℕ) → length (drop n bs) ≡ length bs - n
length-dropped zero bs = omega arith
length-dropped (suc n) [] = omega arith
length-dropped (suc n) (b ∷ bs) = omega (arith, length-dropped n bs)

-- Bytes that are passed over.

no-more : (n : ℕ) → (suc n == 0) ≡ false
no-more n = grind (arith, nat_tests)

pub passing : (n : ℕ) → passed (suc n) ≡ Passing n
passing n = ap (λ c. if c then Between else Passing (suc n - 1)) (no-more n) ∙ ap Passing (less-one n)

pub pass-events : (f : ℕ → Option ℕ) (e : Option ℕ) (at n : ℕ) (bs : List ℕ) → length bs ≤ n →
    events_from (fire f) (U (passed n) e) at bs ≡ []
pass-events f e at n [] h = refl
pass-events f e at zero (b ∷ bs) h = absurd (omega arith)
pass-events f e at (suc n) (b ∷ bs) h = ap (λ p. events_from (fire f) (U p e) at (b ∷ bs)) (passing n)
    ∙ pass-events f e (at + 1) n bs (omega arith)

pub pass-behind : (f : ℕ → Option ℕ) (e : Option ℕ) (n : ℕ) (bs : List ℕ) → length bs ≡ n →
    under_from (fire f) (U (passed n) e) bs ≡ U Between e
pass-behind f e zero [] h = refl
pass-behind f e (suc n) [] h = absurd (omega arith)
pass-behind f e zero (b ∷ bs) h = absurd (omega arith)
pass-behind f e (suc n) (b ∷ bs) h = ap (λ p. under_from (fire f) (U p e) (b ∷ bs)) (passing n)
    ∙ pass-behind f e n bs (omega arith)

-- One block.

abbrev pub block_events : (f : ℕ → Option ℕ) (dbs dbc : ℕ) → Block → List Event
block_events f d dbc b = quadlet_events f ((dbc + b.number) % 8) 0 (quadlets_from b.at b.bytes)
    ++ map Remarked (block_note (4 * d) b)

midi-none : (m : ℕ) (qs : List Quadlet) → midi_only qs ≡ [] → midi_behind m qs ≡ m
midi-none m [] h = refl
midi-none m (q ∷ qs) h = by_test (is_midi q.label) refl (λ rest. midi-none m qs rest) where
  by_test : (t : Bool) → is_midi q.label ≡ t → (midi_only qs ≡ [] → midi_behind m qs ≡ m) → midi_behind m (q ∷ qs) ≡ m
  by_test true e rest = absurd (wrong (sym (ap (λ t. if t then q ∷ midi_only qs else midi_only qs) e) ∙ h)) where
    wrong : q ∷ midi_only qs ≡ [] → ⊥
    wrong w = cc
  by_test false e rest =
      ap (λ t. if t && nat_lt m 8 then midi_behind (m + 1) qs else midi_behind m qs) e ∙
      rest (sym (ap (λ t. if t then q ∷ midi_only qs else midi_only qs) e) ∙ h)

midi-rises : (m : ℕ) (qs : List Quadlet) → m ≤ midi_behind m qs
midi-rises m [] = omega arith
midi-rises m (q ∷ qs) =
    let Goal : Bool → Type 0 = λ t. m ≤ (if t then midi_behind (m + 1) qs else midi_behind m qs) in
    let more : m ≤ midi_behind (m + 1) qs = omega (arith, midi-rises (m + 1) qs) in
    let same : m ≤ midi_behind m qs = midi-rises m qs in
    elim (is_midi q.label && nat_lt m 8) as Goal [ true ↦ more | false ↦ same ]

-- the first MIDI quadlet counts
midi-some : (qs : List Quadlet) (r : Quadlet) (rs : List Quadlet) → midi_only qs ≡ r ∷ rs → 0 < midi_behind 0 qs
midi-some [] r rs h = absurd (wrong h) where
  wrong : [] ≡ r ∷ rs → ⊥
  wrong w = cc
midi-some (q ∷ qs) r rs h = by_test (is_midi q.label) refl (λ rest. midi-some qs r rs rest) where
  by_test : (t : Bool) → is_midi q.label ≡ t → (midi_only qs ≡ r ∷ rs → 0 < midi_behind 0 qs) →
      0 < midi_behind 0 (q ∷ qs)
  by_test true e rest =
      let here : midi_behind 0 (q ∷ qs) ≡ midi_behind 1 qs =
      ap (λ t. if t && nat_lt 0 8 then midi_behind (0 + 1) qs else midi_behind 0 qs) e in
      omega (arith, here, midi-rises 1 qs)
  by_test false e rest =
      let here : midi_behind 0 (q ∷ qs) ≡ midi_behind 0 qs =
      ap (λ t. if t && nat_lt 0 8 then midi_behind (0 + 1) qs else midi_behind 0 qs) e in
      omega (arith, here, rest (sym (ap (λ t. if t then q ∷ midi_only qs else midi_only qs) e) ∙ h))

same-note : (d at k : ℕ) (qs : List Quadlet) → k + 1 ≡ at + 4 * d → 0 < d → remarked k (end_note d (midi_behind 0 qs) k)
    ≡ map Remarked (without (at + (4 * d - 1)) at (take 8 (midi_only qs)))
same-note d at k qs e some = by_midi (midi_only qs) refl where
  by_midi : (ms : List Quadlet) → midi_only qs ≡ ms → remarked k (end_note d (midi_behind 0 qs) k)
      ≡ map Remarked (without (at + (4 * d - 1)) at (take 8 ms))
  by_midi [] none =
      let start : k + 1 - 4 * d ≡ at = omega arith in
      let end : k ≡ at + (4 * d - 1) = omega arith in
      ap (λ m. remarked k (end_note d m k)) (midi-none 0 qs none) ∙
      ap₂ (λ z a. map Remarked (without z a [])) end start
  by_midi (r ∷ rs) some_midi =
      let more : 0 < midi_behind 0 qs = midi-some qs r rs some_midi in
      let no : (midi_behind 0 qs == 0) ≡ false = grind (arith, nat_tests) in
      ap (λ t. remarked k (if t then record { kind = NoMidiQuadlet; at = (k + 1) - 4 * d } ∷ [] else [])) no

record One (f : ℕ → Option ℕ) (d dbc n b r : ℕ) (e : Option ℕ) (at number : ℕ) (bs : List ℕ) : Type 0 where
  goes : Goes f (U (Within (S d n b r (d - 1) 0 0 0)) e) at bs
      (block_events f d dbc (record { at = at; number = number; bytes = bs })) (U (Next d n b r) e)

one-block : (f : ℕ → Option ℕ) (d dbc n b r : ℕ) (e : Option ℕ) (at number : ℕ) (bs : List ℕ) → 0 < d →
    n % 8 ≡ (dbc + number) % 8 → length bs ≡ 4 * d → One f d dbc n b r e at number bs
one-block f d dbc n b r e at number bs some stream long =
    let g = quadlets-whole f d n b r (d - 1) 0 e at bs (omega arith) in
    let qs = quadlets_from at bs in
    let is : (length bs == 4 * d) ≡ true = eq-eqb (length bs) (4 * d) long in
    let k = at + 4 * (d - 1) + 3 in
    record {
      goes = record {
        events =
            g.events ∙
            (ap₂ (λ s w. quadlet_events f s 0 qs ++ w) stream (same-note d at k qs (omega arith) some) ∙
            ap (λ t. quadlet_events f ((dbc + number) % 8) 0 qs
            ++ map Remarked (if t then without (at + (4 * d - 1)) at (take 8 (midi_only qs)) else [])) (sym is));
        behind = g.behind;
      };
    }

part-block : (f : ℕ → Option ℕ) (d dbc n b r : ℕ) (e : Option ℕ) (at number : ℕ) (bs : List ℕ) → 0 < d →
    n % 8 ≡ (dbc + number) % 8 → length bs < 4 * d →
    events_from (fire f) (U (Within (S d n b r (d - 1) 0 0 0)) e) at bs
    ≡ block_events f d dbc (record { at = at; number = number; bytes = bs })
part-block f d dbc n b r e at number bs some stream short =
    let qs = quadlets_from at bs in
    let not : (length bs == 4 * d) ≡ false = grind (arith, nat_tests) in
    quadlets-open f d n b r (d - 1) 0 e at bs (omega arith) ∙
    (ap (λ s. quadlet_events f s 0 qs) stream ∙
    (sym (append-nil (quadlet_events f ((dbc + number) % 8) 0 qs)) ∙
    ap (λ t. quadlet_events f ((dbc + number) % 8) 0 qs
    ++ map Remarked (if t then without (at + (4 * d - 1)) at (take 8 (midi_only qs)) else [])) (sym not)))

-- a block of which nothing stands tells nothing
no-block : (f : ℕ → Option ℕ) (d dbc at number : ℕ) → 0 < d →
    block_events f d dbc (record { at = at; number = number; bytes = [] }) ≡ []
no-block f d dbc at number some =
    let not : (0 == 4 * d) ≡ false = grind (arith, nat_tests) in
    ap (λ t. map Remarked (if t then without (at + (4 * d - 1)) at [] else [])) not

no-blocks : (f : ℕ → Option ℕ) (d dbc count at number : ℕ) → 0 < d →
    flat_map (block_events f d dbc) (blocks_from (4 * d) count at number []) ≡ []
no-blocks f d dbc zero at number some = refl
no-blocks f d dbc (suc count) at number some =
    let nothing : take {A = ℕ} (4 * d) [] ≡ [] = take-all (4 * d) [] (omega arith) in
    let none : drop {A = ℕ} (4 * d) [] ≡ [] = drop-all (4 * d) [] (omega arith) in
    ap (λ bs. block_events f d dbc (record { at = at; number = number; bytes = bs })
    ++ flat_map (block_events f d dbc) (blocks_from (4 * d) count (at + 4 * d) (number + 1) (drop (4 * d) [])))
    nothing ∙
    (ap (λ bs. block_events f d dbc (record { at = at; number = number; bytes = [] })
    ++ flat_map (block_events f d dbc) (blocks_from (4 * d) count (at + 4 * d) (number + 1) bs)) none ∙
    ap₂ (λ x y. x ++ y) (no-block f d dbc at number some) (no-blocks f d dbc count (at + 4 * d) (number + 1) some))

-- All blocks of a packet.

abbrev pub bytes_left : (dbs blocks rest : ℕ) → ℕ
bytes_left d zero r = 4 * d + r
bytes_left d (suc b) r = 4 * d + bytes_left d b r

next-count : (dbc number n : ℕ) → n % 8 ≡ (dbc + number) % 8 → ((n + 1) % 256) % 8 ≡ (dbc + (number + 1)) % 8
next-count dbc number n h = omega arith

pub next-is : (d n b r : ℕ) → Next d n (suc b) r ≡ Within (S d ((n + 1) % 256) b r (d - 1) 0 0 0)
next-is d n b r =
    ap (λ t. if t then passed r else Within (S d ((n + 1) % 256) (suc b - 1) r (d - 1) 0 0 0)) (no-more b)
    ∙ ap (λ k. Within (S d ((n + 1) % 256) k r (d - 1) 0 0 0)) (less-one b)

abbrev first : (f : ℕ → Option ℕ) (d dbc at number : ℕ) → List ℕ → List Event
first f d dbc at number xs = block_events f d dbc (record { at = at; number = number; bytes = xs })

abbrev later : (f : ℕ → Option ℕ) (d dbc b at number : ℕ) → List ℕ → List Event
later f d dbc b at number xs = flat_map (block_events f d dbc) (blocks_from (4 * d) b (at + 4 * d) (number + 1) xs)

cut-short : (f : ℕ → Option ℕ) (d dbc n b c r : ℕ) (e : Option ℕ) (at number : ℕ) (bs : List ℕ) → 0 < d →
    n % 8 ≡ (dbc + number) % 8 → length bs < 4 * d →
    events_from (fire f) (U (Within (S d n b r (d - 1) 0 0 0)) e) at bs ≡ first f d dbc at number (take (4 * d) bs)
    ++ later f d dbc c at number (drop (4 * d) bs)
cut-short f d dbc n b c r e at number bs some stream less =
    part-block f d dbc n b r e at number bs some stream less ∙
    (sym (append-nil (first f d dbc at number bs)) ∙
    ap₂ (λ x y. x ++ y) (ap (first f d dbc at number) (sym (take-all (4 * d) bs (omega arith))))
    (sym (ap (later f d dbc c at number) (drop-all (4 * d) bs (omega arith))
    ∙ no-blocks f d dbc c (at + 4 * d) (number + 1) some)))

cut-whole : (f : ℕ → Option ℕ) (d dbc n b r : ℕ) (e : Option ℕ) (at number : ℕ) (bs : List ℕ) → 0 < d →
    n % 8 ≡ (dbc + number) % 8 → 4 * d ≤ length bs →
    events_from (fire f) (U (Within (S d n b r (d - 1) 0 0 0)) e) at bs ≡ first f d dbc at number (take (4 * d) bs)
    ++ events_from (fire f) (U (Next d n b r) e) (at + 4 * d) (drop (4 * d) bs)
cut-whole f d dbc n b r e at number bs some stream more =
    let long : length (take (4 * d) bs) ≡ 4 * d = length-taken (4 * d) bs more in
    let g = (one-block f d dbc n b r e at number (take (4 * d) bs) some stream long).goes in
    ap (events_from (fire f) (U (Within (S d n b r (d - 1) 0 0 0)) e) at) (sym (take-append-drop (4 * d) bs)) ∙
    (events_from-append (fire f) (U (Within (S d n b r (d - 1) 0 0 0)) e) at (take (4 * d) bs) (drop (4 * d) bs) ∙
    (ap₂ (λ x u. x ++ events_from (fire f) u (at + length (take (4 * d) bs)) (drop (4 * d) bs)) g.events g.behind ∙
    ap (λ k. first f d dbc at number (take (4 * d) bs) ++ events_from (fire f) (U (Next d n b r) e) (at + k)
    (drop (4 * d) bs)) long))

pub blocks-events : (f : ℕ → Option ℕ) (d dbc n b r : ℕ) (e : Option ℕ) (at number : ℕ) (bs : List ℕ) → 0 < d →
    n % 8 ≡ (dbc + number) % 8 → length bs ≤ bytes_left d b r →
    events_from (fire f) (U (Within (S d n b r (d - 1) 0 0 0)) e) at bs
    ≡ flat_map (block_events f d dbc) (blocks_from (4 * d) (suc b) at number bs)
blocks-events f d dbc n zero r e at number bs some stream fits = elim (cases_lt (length bs) (4 * d)) [
  | inl less ↦ cut-short f d dbc n 0 0 r e at number bs some stream less
  | inr more ↦
      cut-whole f d dbc n 0 r e at number bs some stream more ∙
      ap (λ z. first f d dbc at number (take (4 * d) bs) ++ z)
      (pass-events f e (at + 4 * d) r (drop (4 * d) bs) (omega (arith, length-dropped (4 * d) bs)))
]
blocks-events f d dbc n (suc b) r e at number bs some stream fits =
    let rest = blocks-events f d dbc ((n + 1) % 256) b r e (at + 4 * d) (number + 1) (drop (4 * d) bs) some
    (next-count dbc number n stream) (omega (arith, length-dropped (4 * d) bs)) in
    elim (cases_lt (length bs) (4 * d)) [
      | inl less ↦ cut-short f d dbc n (suc b) (suc b) r e at number bs some stream less
      | inr more ↦
          cut-whole f d dbc n (suc b) r e at number bs some stream more ∙
          ap (λ z. first f d dbc at number (take (4 * d) bs) ++ z)
          (ap (λ p. events_from (fire f) (U p e) (at + 4 * d) (drop (4 * d) bs)) (next-is d n b r) ∙ rest)
    ]

-- behind all of them
pub behind-block : (f : ℕ → Option ℕ) (d n b r : ℕ) (e : Option ℕ) (bs : List ℕ) → 0 < d → 4 * d ≤ length bs →
    under_from (fire f) (U (Within (S d n b r (d - 1) 0 0 0)) e) bs
    ≡ under_from (fire f) (U (Next d n b r) e) (drop (4 * d) bs)
behind-block f d n b r e bs some more =
    let long : length (take (4 * d) bs) ≡ 4 * d = length-taken (4 * d) bs more in
    let g = quadlets-whole f d n b r (d - 1) 0 e 0 (take (4 * d) bs) (omega arith) in
    ap (under_from (fire f) (U (Within (S d n b r (d - 1) 0 0 0)) e)) (sym (take-append-drop (4 * d) bs)) ∙
    (under_from-append (fire f) (U (Within (S d n b r (d - 1) 0 0 0)) e) (take (4 * d) bs) (drop (4 * d) bs) ∙
    ap (λ u. under_from (fire f) u (drop (4 * d) bs)) g.behind)

pub blocks-behind : (f : ℕ → Option ℕ) (d n b r : ℕ) (e : Option ℕ) (bs : List ℕ) → 0 < d → length bs
    ≡ bytes_left d b r →
    under_from (fire f) (U (Within (S d n b r (d - 1) 0 0 0)) e) bs ≡ U Between e
blocks-behind f d n zero r e bs some long =
    behind-block f d n 0 r e bs some (omega arith)
    ∙ pass-behind f e r (drop (4 * d) bs) (omega (arith, length-dropped (4 * d) bs))
blocks-behind f d n (suc b) r e bs some long =
    behind-block f d n (suc b) r e bs some (omega arith) ∙
    (ap (λ p. under_from (fire f) (U p e) (drop (4 * d) bs)) (next-is d n b r) ∙
    blocks-behind f d ((n + 1) % 256) b r e (drop (4 * d) bs) some (omega (arith, length-dropped (4 * d) bs)))
