-- Mark by mark the same track is written.
use Rattle.std.proofs.Common.{◌≡◌, ℕ, ◌+◌, ◌-◌, ◌/◌, Bool, true, false, nat_lt, if◌then◌else◌, is_some, List, []}
use Rattle.std.proofs.Common.{◌∷◌, ◌++◌, length, Option, Some, None, refl, sym, ◌∙◌, ap, arith, append_assoc}
use Rattle.std.proofs.Common.{append-nil}
use Rattle.std.proofs.Common.{length-append}
use Rattle.std.proofs.lemmas.Bool.{false≢true}
use Rattle.mb_message.specs.Signs.{Sign}
use Rattle.mb_stream.specs.Denotation.{stays_open}
use Rattle.mb_stream.specs.Puts.{Put, At, Flush}
use Rattle.mb_frames.specs.Numbers.{spelled}
use Rattle.mb_smf.specs.SmfEvents.{delta_bytes, header_chunk, quantity}
use Rattle.mb_smf.specs.SmfWritten.{MomentEvent, a_second, closing, comes_late, data_after, data_behind, event_by}
use Rattle.mb_smf.specs.SmfWritten.{is_gap, is_too_long, last_event, longest, recorded, recorded_from}
use Rattle.mb_smf.specs.SmfWritten.{smf_written, so_far_from, ticks_behind, written_track}
use Rattle.mb_smf.specs.TrackWriting.{TrackSpells, TrackWriting, broken_head, closed, end_bytes, gap_behind}
use Rattle.mb_smf.specs.TrackWriting.{head_bytes, is_full, nothing_written, put_behind, spelled_behind}

spelled-append : (last : Option ℕ) (es fs : List MomentEvent) →
    spelled_behind last (es ++ fs) ≡ spelled_behind last es ++ spelled_behind (last_event last es) fs
spelled-append last [] fs = refl
spelled-append last (e ∷ es) fs =
    let first : List ℕ = delta_bytes (record { delta = ticks_behind last e.moment; event = e.event }) in
    ap (λ z. first ++ z) (spelled-append (Some e.moment) es fs) ∙
    sym (append_assoc first (spelled_behind (Some e.moment) es)
    (spelled_behind (last_event (Some e.moment) es) fs))

pub last-append : (found : Option ℕ) (es fs : List MomentEvent) →
    last_event found (es ++ fs) ≡ last_event (last_event found es) fs
last-append found [] fs = refl
last-append found (e ∷ es) fs = last-append (Some e.moment) es fs

data-append : (ds : List ℕ) (ps qs : List Put) → data_after ds (ps ++ qs) ≡ data_after (data_after ds ps) qs
data-append ds [] qs = refl
data-append ds (At m s ∷ ps) qs = data-append (data_behind ds s) ps qs
data-append ds (Flush ∷ ps) qs = data-append ds ps qs

so-far-append : (ds : List ℕ) (ps qs : List Put) →
    so_far_from ds (ps ++ qs) ≡ so_far_from ds ps ++ so_far_from (data_after ds ps) qs
so-far-append ds [] qs = refl
so-far-append ds (At m s ∷ ps) qs =
    ap (λ z. event_by ds m s ++ z) (so-far-append (data_behind ds s) ps qs) ∙
    sym (append_assoc (event_by ds m s) (so_far_from (data_behind ds s) ps)
    (so_far_from (data_after (data_behind ds s) ps) qs))
so-far-append ds (Flush ∷ ps) qs = so-far-append ds ps qs

pub spells-nothing : TrackSpells nothing_written []
spells-nothing = record { last_is = refl; data_is = refl; rest = λ more. refl }

pub spells-put : (w : TrackWriting) (m : ℕ) (s : Sign) (ps : List Put) → TrackSpells w ps →
    TrackSpells (put_behind w m s) (ps ++ At m s ∷ [])
spells-put w m s ps h = record {
  last_is =
      ap (λ z. last_event w.last (event_by z m s)) h.data_is ∙
      (ap (λ z. last_event z (event_by (data_after [] ps) m s)) h.last_is ∙
      (sym (last-append None (so_far_from [] ps) (event_by (data_after [] ps) m s)) ∙
      (ap (λ z. last_event None (so_far_from [] ps ++ z)) (sym (append-nil (event_by (data_after [] ps) m s))) ∙
      ap (last_event None) (sym (so-far-append [] ps (At m s ∷ []))))));
  data_is = ap (λ z. data_behind z s) h.data_is ∙ sym (data-append [] ps (At m s ∷ []));
  rest = λ more.
      let es : List MomentEvent = event_by w.data_bytes m s in
      let fs : List MomentEvent = recorded_from (data_behind w.data_bytes s) (stays_open w.open_now (s ∷ [])) m more in
      ap (λ z. spelled_behind None (recorded z)) (append_assoc ps (At m s ∷ []) more) ∙
      (h.rest (At m s ∷ more) ∙
      (ap (λ z. w.body ++ z) (spelled-append w.last es fs) ∙
      sym (append_assoc w.body (spelled_behind w.last es) (spelled_behind (last_event w.last es) fs))));
}

-- the track, and how long it is

all-written : (w : TrackWriting) (ps : List Put) → TrackSpells w ps →
    spelled_behind None (recorded ps) ≡ w.body ++ closed w
all-written w ps h = ap (λ z. spelled_behind None (recorded z)) (sym (append-nil ps)) ∙ h.rest []

pub track-is : (w : TrackWriting) (ps : List Put) → TrackSpells w ps →
    written_track ps ≡ delta_bytes a_second ++ (w.body ++ closed w) ++ end_bytes
track-is w ps h = ap (λ z. delta_bytes a_second ++ z ++ end_bytes) (all-written w ps h)

pub length-is : (w : TrackWriting) (ps : List Put) → TrackSpells w ps →
    length (written_track ps) ≡ 11 + length (w.body ++ closed w)
length-is w ps h =
    ap length (track-is w ps h) ∙ omega (
      arith,
      length-append (delta_bytes a_second ++ (w.body ++ closed w)) end_bytes,
      length-append (delta_bytes a_second) (w.body ++ closed w),
    )

pub full-is : (w : TrackWriting) (ps : List Put) → TrackSpells w ps → is_full w ≡ is_too_long ps
full-is w ps h = ap (nat_lt longest) (sym (length-is w ps h))

-- the file in its pieces

abbrev whole : (length : ℕ) → (rest : List ℕ) → List ℕ
whole n rest =
    header_chunk 1000 [] ++ (0x4d ∷ 0x54 ∷ 0x72 ∷ 0x6b ∷ (spelled 4 n ++ (delta_bytes a_second ++ rest)))

pub file-is : (w : TrackWriting) (ps : List Put) → TrackSpells w ps → (head : List ℕ) (n : ℕ) →
    head ≡ head_bytes n → n ≡ 11 + length (w.body ++ closed w) →
    (head ++ w.body) ++ (closed w ++ end_bytes) ≡ smf_written ps
file-is w ps h head n head_is n_is =
    ap (λ z. (z ++ w.body) ++ (closed w ++ end_bytes)) head_is
    ∙ (ap (λ m. whole m (w.body ++ (closed w ++ end_bytes))) (n_is ∙ sym (length-is w ps h))
    ∙ (ap (whole (length (written_track ps))) (sym (append_assoc w.body (closed w) end_bytes))
    ∙ ap (λ z. whole (length (written_track ps)) (z ++ end_bytes)) (sym (all-written w ps h))))

-- a SysEx that is open is broken off
pub closing-is : (w : TrackWriting) → w.open_now ≡ true → (head bytes : List ℕ) (held : ℕ) → bytes ≡ w.data_bytes →
    held ≡ length w.data_bytes → head ≡ broken_head (ticks_behind w.last w.moment) held →
    (head ++ bytes) ++ end_bytes ≡ closed w ++ end_bytes
closing-is w open_is head bytes held bytes_are held_is head_is =
    let q : List ℕ = quantity (ticks_behind w.last w.moment) in
    let r : List ℕ = quantity (length (0xf0 ∷ w.data_bytes)) in
    let n : held + 1 ≡ length (0xf0 ∷ w.data_bytes) = omega (arith, held_is) in
    ap (λ z. z ++ end_bytes)
    (ap (λ z. z ++ bytes) head_is
    ∙ (ap (λ z. broken_head (ticks_behind w.last w.moment) held ++ z) bytes_are
    ∙ (ap (λ m. (q ++ 0xf7 ∷ (quantity m ++ 0xf0 ∷ [])) ++ w.data_bytes) n
    ∙ (append_assoc q (0xf7 ∷ (r ++ 0xf0 ∷ [])) w.data_bytes
    ∙ (ap (λ z. q ++ 0xf7 ∷ z) (append_assoc r (0xf0 ∷ []) w.data_bytes)
    ∙ (sym (append-nil (q ++ 0xf7 ∷ (r ++ 0xf0 ∷ w.data_bytes)))
    ∙ ap (λ (o : Bool). spelled_behind w.last (closing w.data_bytes o w.moment)) (sym open_is)))))))

-- a gap is one behind the last event of the marks

is-gap : (last : Option ℕ) (moment : ℕ) → is_some (gap_behind last moment) ≡ is_gap last moment
is-gap None moment = refl
is-gap (Some was) moment = by (nat_lt longest (moment / 1000 - was / 1000)) where
  by : (t : Bool) → is_some (if t then Some was else None) ≡ t
  by true = refl
  by false = refl

late-is : (w : TrackWriting) (ps : List Put) (moment : ℕ) → TrackSpells w ps →
    is_some (gap_behind w.last moment) ≡ comes_late ps moment
late-is w ps moment h = is-gap w.last moment ∙ ap (λ z. is_gap z moment) h.last_is

gap-last : (last : Option ℕ) (moment was : ℕ) → gap_behind last moment ≡ Some was → last ≡ Some was
gap-last None moment was e = absurd (false≢true (ap is_some e))
gap-last (Some before) moment was e = by (nat_lt longest (moment / 1000 - before / 1000)) e where
  by : (t : Bool) → (if t then Some before else None) ≡ Some was → Some before ≡ Some was
  by true e = e
  by false e = absurd (false≢true (ap is_some e))

pub in-time : (w : TrackWriting) (ps : List Put) (m : ℕ) (s : Sign) → TrackSpells w ps →
    gap_behind w.last m ≡ None → is_full (put_behind w m s) ≡ false →
    (comes_late ps m ≡ false) × (is_too_long (ps ++ At m s ∷ []) ≡ false)
in-time w ps m s h none short = (
  sym (late-is w ps m h) ∙ ap is_some none,
  sym (full-is (put_behind w m s) (ps ++ At m s ∷ []) (spells-put w m s ps h)) ∙ short,
)
