-- The events of a recording, byte by byte, are those of its frames.
use Rattle.std.proofs.Common.{◌≡◌, ℕ, zero, suc, ◌+◌, ◌-◌, ◌*◌, ◌/◌, ◌%◌, ◌<◌, ◌≤◌, inl, inr, Bool, true, false, not}
use Rattle.std.proofs.Common.{◌&&◌, ◌==◌, nat_lt, if◌then◌else◌, Option, Some, None, List, [], ◌∷◌, ◌++◌, length, map}
use Rattle.std.proofs.Common.{flat_map, take, drop, refl, sym, ◌∙◌, ap, ap₂, arith, append_assoc}
use Rattle.std.proofs.lemmas.Bool.{cases_lt, ltb-true, ltb-false}
use Rattle.std.proofs.lemmas.Bool.Decides.{nat_tests}
use Rattle.std.proofs.lemmas.List.{take-append-drop}
use Rattle.std.proofs.Math.Nat.{div-add-mod}
use Rattle.mb_message.specs.declared.note.NoteKind.TheVariants.{BadCip, ZeroDbs, Ragged, DbcGap}
use Rattle.mb_stream.specs.Told.{Known}
use Rattle.mb_ports.specs.Events.{Event, Remarked}
use Rattle.mb_ports.specs.Machine.{remarked, events_from, events, under_from}
use Rattle.mb_ports.proofs.MachineLaw.{events_from-append}
use Rattle.mb_fire.specs.declared.place.BegunHeader.{BegunHeader}
use Rattle.mb_fire.specs.declared.place.Place.{Place}
use Rattle.mb_fire.specs.declared.place.Place.TheVariants.{Between, Heading, Within}
use Rattle.mb_fire.specs.Packets.{placed_frames, Frame, frames, CipHeader, header_of, is_cip, has_blocks, blocks_from}
use Rattle.mb_fire.specs.Packets.{blocks_of}
use Rattle.mb_fire.specs.Reading.{noted, known_notes, gap_note, short_note, expected_by, expected}
use Rattle.mb_fire.specs.Under.{passed, header_in, behind_length, behind_header, first_block, expected_behind}
use Rattle.mb_fire.specs.Under.{notes_at_header, is_gap}
use Rattle.mb_fire.specs.Ports.{fire}
use Rattle.mb_fire.proofs.QuadletEvents.{U, S, less-one}
use Rattle.mb_fire.proofs.BlockEvents.{drop-all, length-taken, length-dropped, pass-events, pass-behind, block_events}
use Rattle.mb_fire.proofs.BlockEvents.{bytes_left, blocks-events, blocks-behind}
use Rattle.mb_frames.specs.Frames.{framed_from}

-- frames from an offset on, at most so many
abbrev pub frames_from : (most at : ℕ) → List ℕ → List Frame
frames_from most at bytes = placed_frames at (framed_from most bytes)

-- Events of the cuts.

abbrev pub header_events : (f : ℕ → Option ℕ) → Option ℕ → Frame → Option CipHeader → List Event
header_events f e x None = []
header_events f e x (Some h) = map Remarked (known_notes e x h)
    ++ (if has_blocks h then flat_map (block_events f h.dbs h.dbc) (blocks_of x h) else [])

abbrev pub frame_events : (f : ℕ → Option ℕ) → Option ℕ → Frame → List Event
frame_events f e x = map Remarked (short_note x) ++ header_events f e x (header_of x.content)

abbrev pub frames_events : (f : ℕ → Option ℕ) → Option ℕ → List Frame → List Event
frames_events f e [] = []
frames_events f e (x ∷ xs) = frame_events f e x ++ frames_events f (expected e x) xs

-- Behind a header.

bytes_left-is : (d b r : ℕ) → bytes_left d b r ≡ (4 * d) * (b + 1) + r
bytes_left-is d zero r = refl_of (4 * d) r where
  refl_of : (s r : ℕ) → s + r ≡ s * (0 + 1) + r
  refl_of s r = omega arith
bytes_left-is d (suc b) r = ap (λ z. 4 * d + z) (bytes_left-is d b r) ∙ grown (4 * d) b r where
  grown : (s b r : ℕ) → s + (s * (b + 1) + r) ≡ s * (suc b + 1) + r
  grown s b r = grind arith

-- how many bytes are to come, by whole blocks and the rest
pub counted-left : (d n c : ℕ) → n / (4 * d) ≡ suc c → bytes_left d c (n % (4 * d)) ≡ n
counted-left d n c h =
    let one : c + 1 ≡ suc c = omega arith in
    bytes_left-is d c (n % (4 * d)) ∙ (ap (λ k. (4 * d) * k + n % (4 * d)) (one ∙ sym h) ∙ div-add-mod n (4 * d))

pub none-left : (d n : ℕ) → n / (4 * d) ≡ 0 → n % (4 * d) ≡ n
none-left d n h = sym (ap (λ k. (4 * d) * k + n % (4 * d)) h ∙ nothing (4 * d) (n % (4 * d)))
    ∙ div-add-mod n (4 * d) where
      nothing : (s r : ℕ) → s * 0 + r ≡ r
      nothing s r = omega arith

abbrev pub head : (len sid dbs dbc fmt fdf : ℕ) → BegunHeader
head len a d n m t = record { len = len; taken = 7; sid = a; dbs = d; dbc = n; fmt = m; fdf = t }

abbrev pub header : (sid dbs dbc fmt fdf : ℕ) → CipHeader
header a d n m t = record { sid = a; dbs = d; dbc = n; fmt = m; fdf = t }

pub some-dbs : (h : CipHeader) → has_blocks h ≡ true → 0 < h.dbs
some-dbs h e = by_zero (h.dbs == 0) refl where
  last : (a b c : Bool) → (a && (b && not c)) ≡ true → c ≡ false
  last true true false w = refl
  last true true true w = cc
  last true false c w = cc
  last false b c w = cc

  by_zero : (t : Bool) → (h.dbs == 0) ≡ t → 0 < h.dbs
  by_zero true z = absurd (wrong (sym z ∙ last (is_cip h) (not (h.fdf == 0xff)) (h.dbs == 0) e)) where
    wrong : true ≡ false → ⊥
    wrong w = cc
  by_zero false z = grind (arith, nat_tests)

content-blocks : (f : ℕ → Option ℕ) (d n k c : ℕ) (e : Option ℕ) (at : ℕ) (bs : List ℕ) → 0 < d → k / (4 * d) ≡ c →
    length bs ≤ k →
    events_from (fire f) (U (first_block d n c (k % (4 * d))) e) at bs
    ≡ flat_map (block_events f d n) (blocks_from (4 * d) c at 0 bs)
content-blocks f d n k zero e at bs some is fits = pass-events f e at (k % (4 * d)) bs (omega (arith, none-left d k is))
content-blocks f d n k (suc c) e at bs some is fits =
    let no : (suc c == 0) ≡ false = grind (arith, nat_tests) in
    let r = k % (4 * d) in
    ap (λ t. events_from (fire f) (U (if t then passed r else Within (S d n (suc c - 1) r (d - 1) 0 0 0)) e) at bs) no ∙
    (ap (λ b. events_from (fire f) (U (Within (S d n b r (d - 1) 0 0 0)) e) at bs) (less-one c) ∙
    blocks-events f d n n c r e at 0 bs some (plain n) (omega (arith, counted-left d k c is))) where
      plain : (n : ℕ) → n % 8 ≡ (n + 0) % 8
      plain n = omega arith

content-behind : (f : ℕ → Option ℕ) (d n k c : ℕ) (e : Option ℕ) (bs : List ℕ) → 0 < d → k / (4 * d) ≡ c → length bs
    ≡ k →
    under_from (fire f) (U (first_block d n c (k % (4 * d))) e) bs ≡ U Between e
content-behind f d n k zero e bs some is long = pass-behind f e (k % (4 * d)) bs (omega (arith, none-left d k is))
content-behind f d n k (suc c) e bs some is long =
    let no : (suc c == 0) ≡ false = grind (arith, nat_tests) in
    let r = k % (4 * d) in
    ap (λ t. under_from (fire f) (U (if t then passed r else Within (S d n (suc c - 1) r (d - 1) 0 0 0)) e) bs) no ∙
    (ap (λ b. under_from (fire f) (U (Within (S d n b r (d - 1) 0 0 0)) e) bs) (less-one c) ∙
    blocks-behind f d n c r e bs some (omega (arith, counted-left d k c is)))

opened-events : (f : ℕ → Option ℕ) (len a d n m t : ℕ) (e : Option ℕ) (at : ℕ) (bs : List ℕ) → length bs ≤ len - 8 →
    events_from (fire f) (U (behind_header (head len a d n m t)) e) at bs
    ≡ (if has_blocks (header a d n m t)
    then flat_map (block_events f d n) (blocks_from (4 * d) ((len - 8) / (4 * d)) at 0 bs) else [])
opened-events f len a d n m t e at bs fits = by_test (has_blocks (header a d n m t)) refl where
  by_test : (c : Bool) → has_blocks (header a d n m t) ≡ c →
      events_from (fire f) (U (if c then first_block d n ((len - 8) / (4 * d)) ((len - 8) % (4 * d))
      else passed (len - 8)) e) at bs
      ≡ (if c then flat_map (block_events f d n) (blocks_from (4 * d) ((len - 8) / (4 * d)) at 0 bs) else [])
  by_test true h = content-blocks f d n (len - 8) ((len - 8) / (4 * d)) e at bs (some-dbs (header a d n m t) h) refl
      fits
  by_test false h = pass-events f e at (len - 8) bs fits

opened-behind : (f : ℕ → Option ℕ) (len a d n m t : ℕ) (e : Option ℕ) (bs : List ℕ) → length bs ≡ len - 8 →
    under_from (fire f) (U (behind_header (head len a d n m t)) e) bs ≡ U Between e
opened-behind f len a d n m t e bs long = by_test (has_blocks (header a d n m t)) refl where
  by_test : (c : Bool) → has_blocks (header a d n m t) ≡ c →
      under_from (fire f) (U (if c then first_block d n ((len - 8) / (4 * d)) ((len - 8) % (4 * d))
      else passed (len - 8)) e) bs ≡ U Between e
  by_test true h = content-behind f d n (len - 8) ((len - 8) / (4 * d)) e bs (some-dbs (header a d n m t) h) refl long
  by_test false h = pass-behind f e (len - 8) bs long

-- The notes on a packet, known at its header's last byte.
same-notes : (e : Option ℕ) (x : Frame) (h : BegunHeader) (k : ℕ) → k ≡ x.at + 9 → h.len ≡ x.len →
    remarked k (notes_at_header e h k) ≡ map Remarked (known_notes e x (header_in h))
same-notes e x h k here long = by_tests (is_cip (header_in h)) (h.fdf == 0xff) (h.dbs == 0) where
  start : k - 9 ≡ x.at
  start = omega arith

  gaps : (z at : ℕ) (e : Option ℕ) → remarked z (if is_gap e h.dbc then record { kind = DbcGap; at = at } ∷ [] else [])
      ≡ map Remarked (elim e as (λ _. List Known) [
        | None ↦ []
        | Some d ↦ if d == h.dbc then []
            else noted z at DbcGap ∷ []
      ])
  gaps z at None = refl
  gaps z at (Some d) = by_gap (d == h.dbc) where
    by_gap : (t : Bool) → remarked z (if not t then record { kind = DbcGap; at = at } ∷ [] else [])
        ≡ map Remarked (if t then [] else noted z at DbcGap ∷ [])
    by_gap true = refl
    by_gap false = refl

  gap-is : (e : Option ℕ) → map Remarked
      (elim e as (λ _. List Known) [
        | None ↦ []
        | Some d ↦ if d == h.dbc then []
            else noted (x.at + 9) x.at DbcGap ∷ []
      ]) ≡ map Remarked (gap_note e x (header_in h))
  gap-is None = refl
  gap-is (Some d) = refl

  counted : (t : Bool) →
      remarked k ((if t then [] else record { kind = Ragged; at = k - 9 } ∷ [])
      ++ (if is_gap e h.dbc then record { kind = DbcGap; at = k - 9 } ∷ [] else []))
      ≡ map Remarked ((if t then [] else noted (x.at + 9) x.at Ragged ∷ []) ++ gap_note e x (header_in h))
  counted true = ap₂ (λ z at. remarked z (if is_gap e h.dbc then record { kind = DbcGap; at = at } ∷ [] else [])) here
      start ∙ (gaps (x.at + 9) x.at e ∙ gap-is e)
  counted false =
      ap₂ (λ z at. Remarked (noted z at Ragged) ∷ remarked z (if is_gap e h.dbc
      then record { kind = DbcGap; at = at } ∷ [] else [])) here start ∙
      ap (λ z. Remarked (noted (x.at + 9) x.at Ragged) ∷ z) (gaps (x.at + 9) x.at e ∙ gap-is e)

  by_tests : (c f z : Bool) →
      remarked k (if not c then record { kind = BadCip; at = k - 9 } ∷ []
      else (if f then [] else (if z then record { kind = ZeroDbs; at = k - 9 } ∷ []
      else (if (h.len - 8) % (4 * h.dbs) == 0 then [] else record { kind = Ragged; at = k - 9 } ∷ [])
      ++ (if is_gap e h.dbc then record { kind = DbcGap; at = k - 9 } ∷ [] else []))))
      ≡ map Remarked (if not c then noted (x.at + 9) x.at BadCip ∷ []
      else (if f then [] else (if z then noted (x.at + 9) x.at ZeroDbs ∷ []
      else (if (x.len - 8) % (4 * h.dbs) == 0 then [] else noted (x.at + 9) x.at Ragged ∷ [])
      ++ gap_note e x (header_in h))))
  by_tests false f z = ap₂ (λ a b. Remarked (noted a b BadCip) ∷ []) here start
  by_tests true true z = refl
  by_tests true false true = ap₂ (λ a b. Remarked (noted a b ZeroDbs) ∷ []) here start
  by_tests true false false =
      ap (λ l. remarked k ((if (l - 8) % (4 * h.dbs) == 0 then [] else record { kind = Ragged; at = k - 9 } ∷ [])
      ++ (if is_gap e h.dbc then record { kind = DbcGap; at = k - 9 } ∷ [] else []))) long ∙
      counted ((x.len - 8) % (4 * h.dbs) == 0)

-- A content that is long enough for a header.

abbrev pub Heading0 : ℕ → Place
Heading0 len = Heading (record { len = len; taken = 0; sid = 0; dbs = 0; dbc = 0; fmt = 0; fdf = 0 })

heading-events : (f : ℕ → Option ℕ) (e : Option ℕ) (x : Frame) (cs : List ℕ) → length cs ≤ x.len →
    events_from (fire f) (U (Heading0 x.len) e) (x.at + 1 + 1) cs
    ≡ header_events f e (record x { content = cs }) (header_of cs)
heading-events f e x [] h = refl
heading-events f e x (c0 ∷ []) h = refl
heading-events f e x (c0 ∷ c1 ∷ []) h = refl
heading-events f e x (c0 ∷ c1 ∷ c2 ∷ []) h = refl
heading-events f e x (c0 ∷ c1 ∷ c2 ∷ c3 ∷ []) h = refl
heading-events f e x (c0 ∷ c1 ∷ c2 ∷ c3 ∷ c4 ∷ []) h = refl
heading-events f e x (c0 ∷ c1 ∷ c2 ∷ c3 ∷ c4 ∷ c5 ∷ []) h = refl
heading-events f e x (c0 ∷ c1 ∷ c2 ∷ c3 ∷ c4 ∷ c5 ∷ c6 ∷ []) h = refl
heading-events f e x (c0 ∷ c1 ∷ c2 ∷ c3 ∷ c4 ∷ c5 ∷ c6 ∷ c7 ∷ bs) h =
    let g = head x.len c0 c1 c3 c4 c5 in
    let k = x.at + 1 + 1 + 1 + 1 + 1 + 1 + 1 + 1 + 1 in
    let here : k ≡ x.at + 9 = omega arith in
    let next : k + 1 ≡ x.at + 10 = omega arith in
    ap₂ (λ w v. w ++ v)
    (same-notes e (record x { content = c0 ∷ c1 ∷ c2 ∷ c3 ∷ c4 ∷ c5 ∷ c6 ∷ c7 ∷ bs }) g k here refl)
    (ap (λ z. events_from (fire f) (U (behind_header g) (expected_behind e g)) z bs) next
    ∙ opened-events f x.len c0 c1 c3 c4 c5 (expected_behind e g) (x.at + 10) bs (omega arith))

heading-behind : (f : ℕ → Option ℕ) (e : Option ℕ) (x : Frame) (cs : List ℕ) → 8 ≤ x.len → length cs ≡ x.len →
    under_from (fire f) (U (Heading0 x.len) e) cs ≡ U Between (expected_by e x (header_of cs))
heading-behind f e x [] m h = absurd (omega arith)
heading-behind f e x (c0 ∷ []) m h = absurd (omega arith)
heading-behind f e x (c0 ∷ c1 ∷ []) m h = absurd (omega arith)
heading-behind f e x (c0 ∷ c1 ∷ c2 ∷ []) m h = absurd (omega arith)
heading-behind f e x (c0 ∷ c1 ∷ c2 ∷ c3 ∷ []) m h = absurd (omega arith)
heading-behind f e x (c0 ∷ c1 ∷ c2 ∷ c3 ∷ c4 ∷ []) m h = absurd (omega arith)
heading-behind f e x (c0 ∷ c1 ∷ c2 ∷ c3 ∷ c4 ∷ c5 ∷ []) m h = absurd (omega arith)
heading-behind f e x (c0 ∷ c1 ∷ c2 ∷ c3 ∷ c4 ∷ c5 ∷ c6 ∷ []) m h = absurd (omega arith)
heading-behind f e x (c0 ∷ c1 ∷ c2 ∷ c3 ∷ c4 ∷ c5 ∷ c6 ∷ c7 ∷ bs) m h =
    opened-behind f x.len c0 c1 c3 c4 c5 (expected_behind e (head x.len c0 c1 c3 c4 c5)) bs (omega arith)

-- A frame behind its length.

no-header : (cs : List ℕ) → length cs < 8 → header_of cs ≡ None
no-header [] h = refl
no-header (a0 ∷ []) h = refl
no-header (a0 ∷ a1 ∷ []) h = refl
no-header (a0 ∷ a1 ∷ a2 ∷ []) h = refl
no-header (a0 ∷ a1 ∷ a2 ∷ a3 ∷ []) h = refl
no-header (a0 ∷ a1 ∷ a2 ∷ a3 ∷ a4 ∷ []) h = refl
no-header (a0 ∷ a1 ∷ a2 ∷ a3 ∷ a4 ∷ a5 ∷ []) h = refl
no-header (a0 ∷ a1 ∷ a2 ∷ a3 ∷ a4 ∷ a5 ∷ a6 ∷ []) h = refl
no-header (a0 ∷ a1 ∷ a2 ∷ a3 ∷ a4 ∷ a5 ∷ a6 ∷ a7 ∷ bs) h = absurd (omega arith)

-- the note of a length below eight, and the content's events
begun-events : (f : ℕ → Option ℕ) (e : Option ℕ) (x : Frame) → length x.content ≤ x.len →
    remarked (x.at + 1) (if nat_lt x.len 8 then record { kind = BadCip; at = x.at + 1 - 1 } ∷ [] else [])
    ++ events_from (fire f) (U (behind_length x.len) e) (x.at + 1 + 1) x.content ≡ frame_events f e x
begun-events f e x fits = by_test (nat_lt x.len 8) refl where
  start : x.at + 1 - 1 ≡ x.at
  start = omega arith

  by_test : (t : Bool) → nat_lt x.len 8 ≡ t →
      remarked (x.at + 1) (if t then record { kind = BadCip; at = x.at + 1 - 1 } ∷ [] else [])
      ++ events_from (fire f) (U (if t then passed x.len else Heading0 x.len) e) (x.at + 1 + 1) x.content
      ≡ map Remarked (if t then noted (x.at + 1) x.at BadCip ∷ [] else []) ++ header_events f e x (header_of x.content)
  by_test true h =
      let less : x.len < 8 = ltb-true x.len 8 h in
      ap₂ (λ k z. Remarked (noted (x.at + 1) k BadCip) ∷ z) start
      (pass-events f e (x.at + 1 + 1) x.len x.content fits
      ∙ ap (header_events f e x) (sym (no-header x.content (omega arith))))
  by_test false h = heading-events f e x x.content fits

pub begun-behind : (f : ℕ → Option ℕ) (e : Option ℕ) (x : Frame) → length x.content ≡ x.len →
    under_from (fire f) (U (behind_length x.len) e) x.content ≡ U Between (expected e x)
begun-behind f e x long = by_test (nat_lt x.len 8) refl where
  by_test : (t : Bool) → nat_lt x.len 8 ≡ t →
      under_from (fire f) (U (if t then passed x.len else Heading0 x.len) e) x.content ≡ U Between (expected e x)
  by_test true h =
      let less : x.len < 8 = ltb-true x.len 8 h in
      pass-behind f e x.len x.content long
      ∙ ap (λ g. U Between (expected_by e x g)) (sym (no-header x.content (omega arith)))
  by_test false h = heading-behind f e x x.content (ltb-false x.len 8 h) long

-- The recording.

no-frames : (f : ℕ → Option ℕ) (e : Option ℕ) (most at : ℕ) → frames_events f e (frames_from most at []) ≡ []
no-frames f e zero at = refl
no-frames f e (suc most) at = refl

taken-fits : (n : ℕ) (bs : List ℕ) → length (take n bs) ≤ n
taken-fits zero bs = omega arith
taken-fits (suc n) [] = omega arith
taken-fits (suc n) (b ∷ bs) = omega (arith, taken-fits n bs)

frames-law : (f : ℕ → Option ℕ) (most at : ℕ) (e : Option ℕ) (bytes : List ℕ) → length bytes ≤ most →
    events_from (fire f) (U Between e) at bytes ≡ frames_events f e (frames_from most at bytes)
frames-law f zero at e [] h = refl
frames-law f zero at e (b ∷ bytes) h = absurd (omega arith)
frames-law f (suc most) at e [] h = refl
frames-law f (suc most) at e (high ∷ []) h = refl
frames-law f (suc most) at e (high ∷ low ∷ bs) h =
    let n = 256 * high + low in
    let x : Frame = record { at = at; len = n; content = take n bs } in
    let rest = frames-law f most (at + 2 + n) (expected e x) (drop n bs) (omega (arith, length-dropped n bs)) in
    let notes = remarked (at + 1) (if nat_lt n 8 then record { kind = BadCip; at = at + 1 - 1 } ∷ [] else []) in
    let own = events_from (fire f) (U (behind_length n) e) (at + 1 + 1) (take n bs) in
    let split : events_from (fire f) (U (behind_length n) e) (at + 1 + 1) bs
    ≡ own ++ events_from (fire f) (under_from (fire f) (U (behind_length n) e) (take n bs))
    (at + 1 + 1 + length (take n bs)) (drop n bs) =
    ap (events_from (fire f) (U (behind_length n) e) (at + 1 + 1)) (sym (take-append-drop n bs))
    ∙ events_from-append (fire f) (U (behind_length n) e) (at + 1 + 1) (take n bs) (drop n bs) in
    let later : events_from (fire f) (under_from (fire f) (U (behind_length n) e) (take n bs))
    (at + 1 + 1 + length (take n bs)) (drop n bs)
    ≡ frames_events f (expected e x) (frames_from most (at + 2 + n) (drop n bs)) =
    elim (cases_lt (length bs) n) [
      | inl short ↦
          let none : drop n bs ≡ [] = drop-all n bs (omega arith) in
          ap (λ z. events_from (fire f) (under_from (fire f) (U (behind_length n) e) (take n bs))
          (at + 1 + 1 + length (take n bs)) z) none ∙
          sym (ap (λ z. frames_events f (expected e x) (frames_from most (at + 2 + n) z)) none
          ∙ no-frames f (expected e x) most (at + 2 + n))
      | inr long ↦
          let all : length (take n bs) ≡ n = length-taken n bs long in
          let here : at + 1 + 1 + length (take n bs) ≡ at + 2 + n = omega arith in
          ap₂ (λ u z. events_from (fire f) u z (drop n bs)) (begun-behind f e x all) here ∙ rest
    ] in
    ap (λ z. notes ++ z) (split ∙ ap (λ z. own ++ z) later) ∙
    (sym (append_assoc notes own (frames_events f (expected e x) (frames_from most (at + 2 + n) (drop n bs)))) ∙
    ap (λ z. z ++ frames_events f (expected e x) (frames_from most (at + 2 + n) (drop n bs)))
    (begun-events f e x (taken-fits n bs)))

pub recording-events : (f : ℕ → Option ℕ) (bytes : List ℕ) → events (fire f) bytes ≡ frames_events f None (frames bytes)
recording-events f bytes = frames-law f (length bytes) 0 None bytes (omega arith)
