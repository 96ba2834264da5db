-- What each step of a track's reader keeps.
use Rattle.std.proofs.Common.{Bor, IfNone}
use Rattle.std.proofs.Common.{◌≡◌, ◌≢◌, ℕ, zero, suc, ◌+◌, ◌-◌, ◌≤◌, Bool, true, false, List, [], ◌∷◌, ◌++◌, length}
use Rattle.std.proofs.Common.{map, take}
use Rattle.std.proofs.Common.{drop, Option, Some, None, refl, sym, ◌∙◌, ap, subst, arith, append_assoc, append-nil}
use Rattle.std.specs.Prelude.{◌==◌, ◌&&◌, not, if◌then◌else◌}
use Rattle.mb_carrier.proofs.GrowSpecs.{grows}
use Rattle.std.proofs.lemmas.Bool.{false≢true}
use Rattle.std.proofs.lemmas.List.{append_cancel_left, take-append-drop, length-append}
use Rattle.std.proofs.Math.Seq.{take-append-add, take-append_seam}
use Rattle.mb_message.specs.Front.{IsFront}
use Rattle.mb_message.specs.Signs.{Sign}
use Rattle.mb_stream.specs.Puts.{Put, puts_at}
use Rattle.mb_stream.specs.Told.{Known, Told}
use Rattle.mb_stream.specs.Reading.{sign_in, told_signs}
use Rattle.mb_stream.specs.ReaderLaw.{Goes, bare_told}
use Rattle.mb_frames.specs.Tapes.{Record, RecordPart, RecordBegin, RecordByte, RecordEnd, Whole, Inside, fault_in}
use Rattle.mb_frames.specs.Tapes.{tape_fault, tape_parts, tape_read}
use Rattle.mb_frames.specs.TapeSteps.{TapeState, after, end_by, ending_at, ending_by, parts_from, rest_by}
use Rattle.mb_frames.specs.declared.tape.TapeFault.{TapeFault}
use Rattle.mb_frames.specs.TapeReading.{LongestBy, TapeStands, TapeTakes, to_come, to_come_by}
use Rattle.mb_frames.specs.declared.tape.Place.{Place}
use Rattle.mb_frames.specs.declared.tape.Place.TheVariants as place
use Rattle.std.specs.Prelude.{Ok}
use Rattle.mb_frames.specs.TapeReading.{IfTold, TapeLongest}
use Rattle.mb_frames.specs.declared.tape.TapePart.{TapePart}
use Rattle.mb_frames.specs.declared.tape.TapePart.TheVariants as part
use Rattle.mb_frames.proofs.TapeLiteral.{broken_after, broken_parts}
use Rattle.mb_frames.proofs.TapeStepLemmas.{stands-all, stands-takes, tape-all, tape-ending}
use Rattle.mb_carrier.specs.Carrier.{known, known_signs, marks_so_far}
use Rattle.mb_carrier.specs.Port.{ReaderStands, reader_owed}
use Rattle.mb_carrier.specs.declared.reader.PortReader.{PortReader}
use Rattle.mb_carrier.specs.SpecLaws.{known-stays}
use Rattle.mb_carrier.specs.declared.spec.Spec.{Spec}
use Rattle.mb_carrier.proofs.Fronts.{front-then}
use Rattle.mb_carrier.proofs.OwedLemmas.{owed-few}
use Rattle.mb_carrier.proofs.PutLemmas.{known_signs-append, puts_at-append}
use Rattle.mb_carrier.specs.Carrier.{end_told}
use Rattle.mb_carrier.specs.Hop.{ReaderGoes}
use Rattle.mb_carrier.proofs.ReadingLemmas.{no_told, told_signs-seen}
use Rattle.mb_message.specs.Signs.{signs_of_event}
use Rattle.mb_message.specs.declared.event.Ev.{Ev}
use Rattle.mb_message.specs.declared.event.Seen.TheVariants as seen
use Rattle.mb_stream.specs.ReaderLaw.{told_by}
use Rattle.mb_track.specs.Track.{track_end}
use Rattle.mb_track.specs.Track.{as_it_stands, begun, last_record_moment, marks_from, recording, records_from}
use Rattle.mb_track.specs.Track.{bytes_on, new_marks, track_marks_so_far, track_records}
use Rattle.mb_track.specs.TrackReading.{IsSameTrack, TrackGoes, TrackQuiet, TrackStands, TrackStandsBy}
use Rattle.mb_track.specs.TrackReading.{TrackTold, next_own, track_spec}
use Rattle.mb_track.specs.declared.track.TrackReader.{TrackReader}
use Rattle.mb_track.proofs.RecordLemmas.{CutAt, begun-moment, begun-recording, cut-all, cut-begin, cut-bytes, cut-end}
use Rattle.mb_track.proofs.RecordLemmas.{cut-none, longer, longer-is-own, longer-moment, longer-other, longer-own}
use Rattle.mb_track.proofs.RecordLemmas.{recording-append, under-moment}
use Rattle.mb_track.proofs.MarkLemmas.{marks-append, new-are}

signs-bare : (ks : List Known) → known_signs ks ≡ told_signs (map bare_told ks)
signs-bare [] = refl
signs-bare (k ∷ ks) = ap (λ ms. sign_in k.told ++ ms) (signs-bare ks)

-- a reader of the same track

-- `quiet` goes by whether a record of the track is under way, what was told by the moment
pub stands-now : (r now : TrackReader) (own : Bool) (quiet : Bool → Bool) (taken next : List ℕ) (told : ℕ → List Put) →
    IsSameTrack r now → r.own ≡ own →
    TrackStandsBy (track_spec r) (ReaderStands now.reader) now.tape r.track own (quiet own) r.moment taken next
    (told r.moment) →
    TrackStandsBy (track_spec now) (ReaderStands now.reader) now.tape now.track now.own (quiet now.own) now.moment taken
    next (told now.moment)
stands-now r now own quiet taken next told same is st =
    subst (λ (z : Spec). TrackStandsBy z (ReaderStands now.reader) now.tape now.track now.own (quiet now.own) now.moment
    taken next (told now.moment)) (sym same.spec)
    (subst (λ (z : ℕ). TrackStandsBy (track_spec r) (ReaderStands now.reader) now.tape z now.own (quiet now.own)
    now.moment taken next (told now.moment)) (sym same.track)
    (subst (λ (z : Bool). TrackStandsBy (track_spec r) (ReaderStands now.reader) now.tape r.track z (quiet z) now.moment
    taken next (told now.moment)) (sym (same.own ∙ is))
    (subst (λ (z : ℕ). TrackStandsBy (track_spec r) (ReaderStands now.reader) now.tape r.track own (quiet own) z taken
    next (told z)) (sym same.moment) st)))

-- The port's reader took bytes of the record under way, which is of the track.

near-is : (near bytes input left : List ℕ) (most now : ℕ) → near ≡ take most input → input ≡ bytes ++ left →
    now + length bytes ≡ most → near ≡ bytes ++ take now left
near-is near bytes input left most now e f g =
    e ∙ (ap (λ n. take n input) (sym g ∙ omega arith) ∙ (ap (take (length bytes + now)) f
    ∙ take-append-add bytes left now))

pub heard : (s : Spec) (reader reader_now : List ℕ → List Known → Type 0) (tape tape_now : TapeState)
    (track moment : ℕ) (was quiet : Bool) (taken input left near rest bytes : List ℕ) (told : List Put)
    (answer : List Told) →
    (st : TrackStandsBy s reader tape track true was moment taken input told) →
    near ≡ take (to_come tape) input →
    (go : Goes bare_told (known s) reader_now near rest answer
    (recording track (st.ended ++ as_it_stands st.under)) st.known_told) →
    go.taken ≡ bytes → input ≡ bytes ++ left →
    TapeTakes tape tape_now bytes [] (map RecordByte bytes) → to_come tape_now + length bytes ≡ to_come tape →
    (quiet ≡ true →
    st.known_told ++ go.fresh ≡ known s (recording track (st.ended ++ as_it_stands st.under) ++ bytes)) →
    TrackStandsBy s reader_now tape_now track true quiet moment (taken ++ bytes) left
    (told ++ puts_at moment (told_signs answer))
heard s reader reader_now tape tape_now track moment was quiet taken input left near rest bytes told answer st near_is
    go
    same front takes to_come_is all =
    let records = st.ended ++ as_it_stands st.under in
    let grown : recording track (st.ended ++ as_it_stands (longer st.under bytes)) ≡ recording track records ++ bytes
    = longer-own track st.ended st.under bytes (sym st.is_own) in
    record {
      parts = st.parts ++ map RecordByte bytes;
      of_tape = stands-all tape tape_now bytes (map RecordByte bytes) taken st.parts st.of_tape takes;
      ended = st.ended;
      under = longer st.under bytes;
      cut = cut-bytes st.parts st.ended st.under bytes st.cut;
      known_told = st.known_told ++ go.fresh;
      of_reader =
          subst (λ (xs : List ℕ). reader_now xs (st.known_told ++ go.fresh))
          (ap (λ xs. recording track records ++ xs) same ∙ sym grown) go.stands;
      still =
          subst (λ (xs : List ℕ). IsFront (st.known_told ++ go.fresh) (known s xs))
          (ap (λ xs. recording track records ++ xs)
          (near-is near bytes input left (to_come tape) (to_come tape_now) near_is front to_come_is)
          ∙ (sym (append_assoc (recording track records) bytes (take (to_come tape_now) left))
          ∙ ap (λ xs. xs ++ take (to_come tape_now) left) (sym grown))) go.still;
      is_own = st.is_own ∙ sym (longer-is-own track st.under bytes);
      all = λ e. all e ∙ ap (known s) (sym grown);
      fresh = st.fresh ++ told_signs answer;
      signs =
          known_signs-append st.known_told go.fresh
          ∙ (ap (λ ms. ms ++ known_signs go.fresh) st.signs
          ∙ (append_assoc (marks_so_far s (recording track st.ended)) st.fresh (known_signs go.fresh)
          ∙ ap (λ ms. marks_so_far s (recording track st.ended) ++ (st.fresh ++ ms))
          (signs-bare go.fresh ∙ ap told_signs go.answer_is)));
      told_is =
          ap (λ ps. ps ++ puts_at moment (told_signs answer)) st.told_is
          ∙ (append_assoc (marks_from s track [] st.ended) (puts_at moment st.fresh) (puts_at moment (told_signs
          answer))
          ∙ ap (λ ps. marks_from s track [] st.ended ++ ps) (sym (puts_at-append moment st.fresh (told_signs answer))));
      moment_is = st.moment_is ∙ sym (longer-moment st.ended st.under bytes);
    }

-- all that is known was told, and nothing is to be told before the tape's next part
pub heard-all : (s : Spec) (reader reader_now : List ℕ → List Known → Type 0) (tape tape_now : TapeState)
    (track moment : ℕ) (was : Bool) (taken input left near rest bytes : List ℕ) (told : List Put)
    (answer : List Told) →
    (st : TrackStandsBy s reader tape track true was moment taken input told) →
    near ≡ take (to_come tape) input →
    (go : Goes bare_told (known s) reader_now near rest answer
    (recording track (st.ended ++ as_it_stands st.under)) st.known_told) →
    go.taken ≡ bytes → input ≡ bytes ++ left →
    TapeTakes tape tape_now bytes [] (map RecordByte bytes) → to_come tape_now + length bytes ≡ to_come tape →
    answer ≡ [] → rest ≡ [] →
    st.known_told ≡ known s (recording track (st.ended ++ as_it_stands st.under) ++ near) →
    TrackStandsBy s reader_now tape_now track true true moment (taken ++ bytes) left told
heard-all s reader reader_now tape tape_now track moment was taken input left near rest bytes told answer st near_is go
    same front takes to_come_is none used all =
    let nothing : go.fresh ≡ [] = no_told go.fresh (go.answer_is ∙ none) in
    let all_near : near ≡ bytes
    = go.front ∙ (ap (λ xs. xs ++ rest) same ∙ (ap (λ xs. bytes ++ xs) used ∙ append-nil bytes)) in
    subst (λ (ps : List Put). TrackStandsBy s reader_now tape_now track true true moment (taken ++ bytes) left ps)
    (ap (λ ts. told ++ puts_at moment (told_signs ts)) none ∙ append-nil told)
    (heard s reader reader_now tape tape_now track moment was true taken input left near rest bytes told answer st
    near_is
    go same front takes to_come_is (λ e.
    ap (λ ks. st.known_told ++ ks) nothing
    ∙ (append-nil st.known_told ∙ (all
    ∙ ap (λ xs. known s (recording track (st.ended ++ as_it_stands st.under) ++ xs)) all_near))))

pub none-next : (near rest bytes taken input left : List ℕ) (most now : ℕ) → near ≡ take most input →
    input ≡ bytes ++ left → now + length bytes ≡ most → near ≡ taken ++ rest → taken ≡ bytes → rest ≡ [] →
    take now left ≡ []
none-next near rest bytes taken input left most now near_is front to_come_is split same used =
    append_cancel_left bytes (take now left) rest
    (sym (near-is near bytes input left most now near_is front to_come_is)
    ∙ (split ∙ ap (λ xs. xs ++ rest) same)) ∙ used

-- The tape's next part, where the reader is quiet.

-- what was told are the marks of the records, the one under way among them as it stands
pub told-all : (s : Spec) (reader : List ℕ → List Known → Type 0) (tape : TapeState) (track : ℕ) (own : Bool)
    (moment : ℕ) (taken next : List ℕ) (told : List Put) →
    (st : TrackStandsBy s reader tape track own true moment taken next told) →
    told ≡ marks_from s track [] (st.ended ++ as_it_stands st.under)
told-all s reader tape track own moment taken next told st =
    by st.under st.moment_is (sym (ap known_signs (st.all refl)) ∙ st.signs)
  where
    by : (under : Option Record) → moment ≡ last_record_moment (st.ended ++ as_it_stands under) →
        marks_so_far s (recording track (st.ended ++ as_it_stands under)) ≡
        marks_so_far s (recording track st.ended) ++ st.fresh →
        told ≡ marks_from s track [] (st.ended ++ as_it_stands under)
    by None at e =
        let nothing : st.fresh ≡ []
        = append_cancel_left (marks_so_far s (recording track st.ended)) st.fresh []
        (sym e ∙ (ap (λ rs. marks_so_far s (recording track rs)) (append-nil st.ended)
        ∙ sym (append-nil (marks_so_far s (recording track st.ended))))) in
        st.told_is ∙ (ap (λ ms. marks_from s track [] st.ended ++ puts_at moment ms) nothing
        ∙ (append-nil (marks_from s track [] st.ended)
        ∙ ap (marks_from s track []) (sym (append-nil st.ended))))
    by (Some r) at e =
        let before : List ℕ = recording track st.ended in
        let own_bytes : List ℕ = bytes_on track r in
        let news : new_marks s before own_bytes ≡ st.fresh
        = new-are s before own_bytes st.fresh
        (ap (marks_so_far s) (ap (λ xs. before ++ xs) (sym (append-nil own_bytes))
        ∙ sym (recording-append track st.ended (r ∷ []))) ∙ e) in
        st.told_is
        ∙ sym (marks-append s track [] st.ended (r ∷ [])
        ∙ ap (λ ps. marks_from s track [] st.ended ++ ps)
        (append-nil (puts_at r.moment (new_marks s before own_bytes))
        ∙ (ap (puts_at r.moment) news ∙ ap (λ m. puts_at m st.fresh) (sym (at ∙ under-moment st.ended r)))))

front-after : (s : Spec) (told : List Known) (xs ys more : List ℕ) → told ≡ known s xs → ys ≡ xs →
    IsFront told (known s (ys ++ more))
front-after s told xs ys more e f =
    subst (λ (ks : List Known). IsFront ks (known s (ys ++ more))) (ap (known s) f ∙ sym e) (known-stays s ys more)

none-fresh : (s : Spec) (told : List Known) (xs ys : List ℕ) → told ≡ known s xs → ys ≡ xs →
    known_signs told ≡ marks_so_far s ys ++ []
none-fresh s told xs ys e f =
    ap known_signs (e ∙ ap (known s) (sym f)) ∙ sym (append-nil (marks_so_far s ys))

-- a record begins
pub part-begin : (s : Spec) (reader : List ℕ → List Known → Type 0) (tape tape_now : TapeState) (track : ℕ) (own : Bool)
    (moment : ℕ) (taken next left bytes : List ℕ) (told : List Put) (at other len : ℕ) →
    (st : TrackStandsBy s reader tape track own true moment taken next told) →
    TapeStands tape_now (taken ++ bytes) (st.parts ++ RecordBegin at other len ∷ []) →
    TrackStandsBy s reader tape_now track (other == track) (not (other == track)) at (taken ++ bytes) left told
part-begin s reader tape tape_now track own moment taken next left bytes told at other len st tape_stands =
    let records = st.ended ++ as_it_stands st.under in
    let same : recording track (records ++ begun at other ∷ []) ≡ recording track records
    = begun-recording track at other records in
    record {
      parts = st.parts ++ RecordBegin at other len ∷ [];
      of_tape = tape_stands;
      ended = records;
      under = Some (begun at other);
      cut = cut-begin st.parts st.ended st.under at other len st.cut;
      known_told = st.known_told;
      of_reader = subst (λ (xs : List ℕ). reader xs st.known_told) (sym same) st.of_reader;
      still = front-after s st.known_told (recording track records) _ _ (st.all refl) same;
      is_own = refl;
      all = λ e. st.all refl ∙ ap (known s) (sym same);
      fresh = [];
      signs = none-fresh s st.known_told (recording track records) (recording track records) (st.all refl) refl;
      told_is =
          told-all s reader tape track own moment taken next told st
          ∙ sym (append-nil (marks_from s track [] records));
      moment_is = sym (begun-moment records at other);
    }

-- a record ends
pub part-end : (s : Spec) (reader : List ℕ → List Known → Type 0) (tape tape_now : TapeState) (track : ℕ) (own : Bool)
    (moment : ℕ) (taken next left bytes : List ℕ) (told : List Put) →
    (st : TrackStandsBy s reader tape track own true moment taken next told) →
    TapeStands tape_now (taken ++ bytes) (st.parts ++ RecordEnd ∷ []) →
    TrackStandsBy s reader tape_now track false true moment (taken ++ bytes) left told
part-end s reader tape tape_now track own moment taken next left bytes told st tape_stands =
    let records = st.ended ++ as_it_stands st.under in
    let same : records ++ [] ≡ records = append-nil records in
    record {
      parts = st.parts ++ RecordEnd ∷ [];
      of_tape = tape_stands;
      ended = records;
      under = None;
      cut = cut-end st.parts st.ended st.under st.cut;
      known_told = st.known_told;
      of_reader = subst (λ (rs : List Record). reader (recording track rs) st.known_told) (sym same) st.of_reader;
      still = front-after s st.known_told (recording track records) _ _ (st.all refl) (ap (recording track) same);
      is_own = refl;
      all = λ e. st.all refl ∙ ap (λ rs. known s (recording track rs)) (sym same);
      fresh = [];
      signs = none-fresh s st.known_told (recording track records) (recording track records) (st.all refl) refl;
      told_is =
          told-all s reader tape track own moment taken next told st
          ∙ sym (append-nil (marks_from s track [] records));
      moment_is = st.moment_is ∙ ap last_record_moment (sym same);
    }

-- bytes of another track's record are passed over, or of none
pub part-bytes : (s : Spec) (reader : List ℕ → List Known → Type 0) (tape tape_now : TapeState) (track : ℕ) (own : Bool)
    (quiet : Bool) (moment : ℕ) (taken next left bytes passed : List ℕ) (told : List Put) →
    (st : TrackStandsBy s reader tape track own true moment taken next told) → own ≡ false →
    TapeStands tape_now (taken ++ bytes) (st.parts ++ map RecordByte passed) →
    TrackStandsBy s reader tape_now track own quiet moment (taken ++ bytes) left told
part-bytes s reader tape tape_now track own quiet moment taken next left bytes passed told st other tape_stands =
    let records = st.ended ++ as_it_stands st.under in
    let same : recording track (st.ended ++ as_it_stands (longer st.under passed)) ≡ recording track records
    = longer-other track st.ended st.under passed (sym st.is_own ∙ other) in
    record {
      parts = st.parts ++ map RecordByte passed;
      of_tape = tape_stands;
      ended = st.ended;
      under = longer st.under passed;
      cut = cut-bytes st.parts st.ended st.under passed st.cut;
      known_told = st.known_told;
      of_reader = subst (λ (xs : List ℕ). reader xs st.known_told) (sym same) st.of_reader;
      still = front-after s st.known_told (recording track records) _ _ (st.all refl) same;
      is_own = st.is_own ∙ sym (longer-is-own track st.under passed);
      all = λ e. st.all refl ∙ ap (known s) (sym same);
      fresh = st.fresh;
      signs = st.signs;
      told_is = st.told_is;
      moment_is = st.moment_is ∙ sym (longer-moment st.ended st.under passed);
    }

-- there is no part yet, or none comes any more
pub part-none : (s : Spec) (reader : List ℕ → List Known → Type 0) (tape tape_now : TapeState) (track : ℕ) (own : Bool)
    (quiet : Bool) (moment : ℕ) (taken next left bytes : List ℕ) (told : List Put) →
    (st : TrackStandsBy s reader tape track own true moment taken next told) →
    TapeStands tape_now (taken ++ bytes) (st.parts ++ []) →
    TrackStandsBy s reader tape_now track own quiet moment (taken ++ bytes) left told
part-none s reader tape tape_now track own quiet moment taken next left bytes told st tape_stands =
    let records = st.ended ++ as_it_stands st.under in
    record {
      parts = st.parts ++ [];
      of_tape = tape_stands;
      ended = st.ended;
      under = st.under;
      cut = cut-none st.parts st.ended st.under st.cut;
      known_told = st.known_told;
      of_reader = st.of_reader;
      still = front-after s st.known_told (recording track records) _ _ (st.all refl) refl;
      is_own = st.is_own;
      all = λ e. st.all refl;
      fresh = st.fresh;
      signs = st.signs;
      told_is = st.told_is;
      moment_is = st.moment_is;
    }

-- bytes of a record of the track are never left to the tape: nothing is to come of it, or nothing stands next
pub no-own-bytes : (p : Place) (input : List ℕ) (bytes : Bor (List ℕ)) → take (to_come_by p) input ≡ [] →
    LongestBy p input (part.Bytes bytes) → ⊥
no-own-bytes place.Magic input bytes none longest = longest
no-own-bytes place.Header input bytes none longest = longest
no-own-bytes (place.Within left) input bytes none longest = longest.0 (longest.1 ∙ none)
no-own-bytes (place.Broken f) input bytes none longest = longest

-- where nothing more is to be told, whatever stands next

quiet-more : (s : Spec) (reader : List ℕ → List Known → Type 0) (tape : TapeState) (track : ℕ) (own quiet : Bool)
    (moment : ℕ) (taken next more : List ℕ) (told : List Put) →
    (st : TrackStandsBy s reader tape track own true moment taken next told) →
    TrackStandsBy s reader tape track own quiet moment taken more told
quiet-more s reader tape track own quiet moment taken next more told st = record {
  parts = st.parts;
  of_tape = st.of_tape;
  ended = st.ended;
  under = st.under;
  cut = st.cut;
  known_told = st.known_told;
  of_reader = st.of_reader;
  still = front-after s st.known_told (recording track (st.ended ++ as_it_stands st.under)) _ _ (st.all refl) refl;
  is_own = st.is_own;
  all = λ e. st.all refl;
  fresh = st.fresh;
  signs = st.signs;
  told_is = st.told_is;
  moment_is = st.moment_is;
}

-- where nothing stands next, whatever comes to stand there

take-none : (n : ℕ) → take {A = ℕ} n [] ≡ []
take-none zero = refl
take-none (suc n) = refl

none-own : (own : Bool) (tape : TapeState) → next_own own tape [] ≡ []
none-own false tape = refl
none-own true tape = take-none (to_come tape)

-- what is known stays known
still-more : (s : Spec) (told : List Known) (recorded near more : List ℕ) → near ≡ [] →
    IsFront told (known s (recorded ++ near)) → IsFront told (known s (recorded ++ more))
still-more s told recorded near more none still =
    front-then told (known s recorded) (known s (recorded ++ more))
    (subst (λ (xs : List ℕ). IsFront told (known s xs)) (ap (λ xs. recorded ++ xs) none ∙ append-nil recorded) still)
    (known-stays s recorded more)

pub stands-more : (r : TrackReader) (taken next : List ℕ) (told : List Put) → TrackStands r taken [] told →
    TrackStands r taken next told
stands-more r taken next told st = record {
  parts = st.parts;
  of_tape = st.of_tape;
  ended = st.ended;
  under = st.under;
  cut = st.cut;
  known_told = st.known_told;
  of_reader = st.of_reader;
  still =
      still-more (track_spec r) st.known_told (recording r.track (st.ended ++ as_it_stands st.under))
      (next_own r.own r.tape []) (next_own r.own r.tape next) (none-own r.own r.tape) st.still;
  is_own = st.is_own;
  all = st.all;
  fresh = st.fresh;
  signs = st.signs;
  told_is = st.told_is;
  moment_is = st.moment_is;
}

records-are : (parts : List RecordPart) (ended : List Record) (under : Option Record) (bytes : List ℕ) →
    CutAt parts ended under → parts ≡ tape_parts bytes → track_records bytes ≡ ended ++ as_it_stands under
records-are parts ended under bytes cut e = ap (records_from None) (sym e) ∙ cut-all parts ended under cut

pub over-told : (s : Spec) (reader : List ℕ → List Known → Type 0) (tape : TapeState) (track : ℕ) (own : Bool)
    (moment : ℕ) (taken next : List ℕ) (told : List Put) →
    TrackStandsBy s reader tape track own true moment taken next told → parts_from tape [] ≡ [] →
    told ≡ track_marks_so_far s track taken
over-told s reader tape track own moment taken next told st none =
    told-all s reader tape track own moment taken next told st
    ∙ ap (marks_from s track [])
    (sym (records-are st.parts st.ended st.under taken st.cut (tape-all taken tape st.parts st.of_tape none)))

pub over-all : (r : TrackReader) (taken next : List ℕ) (told : List Put) →
    TrackStandsBy (track_spec r) (ReaderStands r.reader) r.tape r.track r.own true r.moment taken next told →
    parts_from r.tape [] ≡ [] → TrackTold r taken
over-all r taken next told st none =
    let records : track_records taken ≡ st.ended ++ as_it_stands st.under
    = records-are st.parts st.ended st.under taken st.cut (tape-all taken r.tape st.parts st.of_tape none) in
    let bytes : recording r.track (track_records taken) ≡ recording r.track (st.ended ++ as_it_stands st.under)
    = ap (recording r.track) records in
    record {
      of_reader =
          subst (λ (xs : List ℕ). ReaderStands r.reader xs (known (track_spec r) xs)) (sym bytes)
          (subst (λ (ks : List Known). ReaderStands r.reader (recording r.track (st.ended ++ as_it_stands st.under)) ks)
          (st.all refl) st.of_reader);
      moment = st.moment_is ∙ ap last_record_moment (sym records);
      stands = λ more.
          subst (λ (ps : List Put). TrackStands r taken more ps)
          (over-told (track_spec r) (ReaderStands r.reader) r.tape r.track r.own r.moment taken next told st none)
          (quiet-more (track_spec r) (ReaderStands r.reader) r.tape r.track r.own (not r.own) r.moment taken next more
          told st);
    }

-- how the tape ends there

pub broken-stands : (t : TapeState) (f : TapeFault) (bytes more : List ℕ) (parts : List RecordPart) →
    t.place ≡ place.Broken f → TapeStands t bytes parts → TapeStands t (bytes ++ more) parts
broken-stands t f bytes more parts broken st = record {
  parts = λ rest.
      ap tape_parts (append_assoc bytes more rest) ∙ (st.parts (more ++ rest)
      ∙ ap (λ ps. parts ++ ps) (no-parts t f (more ++ rest) broken ∙ sym (no-parts t f rest broken)));
  ending = λ rest.
      ap (λ xs. (tape_read xs).ending) (append_assoc bytes more rest) ∙ (st.ending (more ++ rest)
      ∙ (ap ending_at (same-after t f (more ++ rest) broken) ∙ sym (ap ending_at (same-after t f rest broken))));
}
  where
    no-parts : (t : TapeState) (f : TapeFault) (bytes : List ℕ) → t.place ≡ place.Broken f → parts_from t bytes ≡ []
    no-parts t f bytes broken =
        subst (λ (p : Place). parts_from (record t { place = p }) bytes ≡ []) (sym broken) (broken_parts f t bytes)

    same-after : (t : TapeState) (f : TapeFault) (bytes : List ℕ) → t.place ≡ place.Broken f →
        after t bytes ≡ record t { place = place.Broken f }
    same-after t f bytes broken =
        subst (λ (p : Place). after (record t { place = p }) bytes ≡ record t { place = place.Broken f }) (sym broken)
        (broken_after f t bytes)

pub broken-none : (t : TapeState) (f : TapeFault) → t.place ≡ place.Broken f → parts_from t [] ≡ []
broken-none t f broken = subst (λ (p : Place). end_by p ≡ []) (sym broken) refl

pub fault-some : (t : TapeState) (f : TapeFault) (bytes : List ℕ) (parts : List RecordPart) →
    t.place ≡ place.Broken f → TapeStands t bytes parts → tape_fault bytes ≡ Some f
fault-some t f bytes parts broken st =
    ap fault_in (tape-ending bytes t parts st)
    ∙ ap (λ (p : Place). fault_in (ending_by (rest_by p) (length t.head))) broken

pub fault-none : (t : TapeState) (bytes : List ℕ) (parts : List RecordPart) →
    ((f : TapeFault) → t.place ≢ place.Broken f) → TapeStands t bytes parts → tape_fault bytes ≡ None
fault-none t bytes parts sound st = ap fault_in (tape-ending bytes t parts st) ∙ by t.place sound
  where
    by_end : (b : Bool) → fault_in (if b then Whole else Inside) ≡ None
    by_end true = refl
    by_end false = refl

    by : (p : Place) → ((f : TapeFault) → p ≢ place.Broken f) →
        fault_in (ending_by (rest_by p) (length t.head)) ≡ None
    by place.Magic sound = refl
    by place.Header sound = by_end (length t.head == 0)
    by (place.Within zero) sound = by_end (length t.head == 0)
    by (place.Within (suc left)) sound = by_end (suc left == 0)
    by (place.Broken f) sound = absurd (sound f refl)

-- a step behind one that told nothing

pub gone-then : (a b c : TrackReader) (i j k : List ℕ) (signs : List Sign) → TrackGoes a b i j [] →
    TrackGoes b c j k signs → TrackGoes a c i k signs
gone-then a b c i j k signs first second = λ taken told st.
    let f = first taken told st in
    let g = second (taken ++ f.bytes) told
    (subst (λ (ps : List Put). TrackStands b (taken ++ f.bytes) j ps) (append-nil told) f.stands) in
    record {
      bytes = f.bytes ++ g.bytes;
      front = f.front ∙ (ap (λ xs. f.bytes ++ xs) g.front ∙ sym (append_assoc f.bytes g.bytes k));
      stands =
          subst (λ (xs : List ℕ). TrackStands c xs k (told ++ puts_at c.moment signs))
          (append_assoc taken f.bytes g.bytes) g.stands;
    }

pub gone-none : (r : TrackReader) (input : List ℕ) → TrackGoes r r input input []
gone-none r input = λ taken told st. record {
  bytes = [];
  front = refl;
  stands =
      subst (λ (xs : List ℕ). TrackStands r xs input (told ++ [])) (sym (append-nil taken))
      (subst (λ (ps : List Put). TrackStands r taken input ps) (sym (append-nil told)) st);
}

-- how many bytes the port's reader took
pub taken-is : (near taken rest input : List ℕ) (most : ℕ) → near ≡ take most input → near ≡ taken ++ rest →
    take (length near - length rest) input ≡ taken
taken-is near taken rest input most e f =
    let all : input ≡ taken ++ (rest ++ drop most input)
    = sym (take-append-drop most input) ∙ (ap (λ xs. xs ++ drop most input) (sym e ∙ f)
    ∙ append_assoc taken rest (drop most input)) in
    let many : length near - length rest ≡ length taken = omega (arith, ap length f ∙ length-append taken rest) in
    ap (λ n. take n input) many ∙ (ap (take (length taken)) all ∙ take-append_seam taken (rest ++ drop most input))

-- a new reader
pub fresh-stands : (s : Spec) (reader : List ℕ → List Known → Type 0) (tape : TapeState) (track : ℕ) (next : List ℕ) →
    TapeStands tape [] [] → reader [] [] → TrackStandsBy s reader tape track false true 0 [] next []
fresh-stands s reader tape track next tape_stands reads = record {
  parts = [];
  of_tape = tape_stands;
  ended = [];
  under = None;
  cut = λ more. refl;
  known_told = [];
  of_reader = reads;
  still = front-after s [] [] [] [] (sym (grows s).nothing_known) refl;
  is_own = refl;
  all = λ e. sym (grows s).nothing_known;
  fresh = [];
  signs = ap known_signs (sym (grows s).nothing_known) ∙ sym (append-nil (marks_so_far s []));
  told_is = refl;
  moment_is = refl;
}

-- one call of the port's reader

abbrev pub ReaderCall : (r now : TrackReader) (near rest : List ℕ) (answer : List Told) (at : ℕ → ℕ) → Type 0
ReaderCall r now near rest answer at =
    (recorded : List ℕ) (told : List Known) → ReaderStands r.reader recorded told →
    IsFront told (known (track_spec r) (recorded ++ near)) →
    ReaderGoes (track_spec r) (ReaderStands now.reader) at near rest answer recorded told

own-stands : (r : TrackReader) (taken input : List ℕ) (told : List Put) → r.own ≡ true →
    TrackStands r taken input told →
    TrackStandsBy (track_spec r) (ReaderStands r.reader) r.tape r.track true false r.moment taken input told
own-stands r taken input told own st =
    subst (λ (z : Bool). TrackStandsBy (track_spec r) (ReaderStands r.reader) r.tape r.track z (not z) r.moment taken
    input told) own st

pub read-goes : (r now : TrackReader) (input left near rest : List ℕ) (many : ℕ) (answer : List Told) (at : ℕ → ℕ) →
    r.own ≡ true → IsSameTrack r now → near ≡ take (to_come r.tape) input → many ≡ length near - length rest →
    input ≡ take many input ++ left → TapeTakes r.tape now.tape (take many input) [] (map RecordByte (take many
    input)) →
    to_come now.tape + length (take many input) ≡ to_come r.tape → ReaderCall r now near rest answer at →
    TrackGoes r now input left (told_signs answer)
read-goes r now input left near rest many answer at own same near_is many_is front takes to_come_is call =
    λ taken told stands.
    let st = own-stands r taken input told own stands in
    let records : List ℕ = recording r.track (st.ended ++ as_it_stands st.under) in
    let go = call records st.known_told st.of_reader
    (subst (λ (xs : List ℕ). IsFront st.known_told (known (track_spec r) (records ++ xs))) (sym near_is) st.still) in
    record {
      bytes = take many input;
      front = front;
      stands =
          stands-now r now true not (taken ++ take many input) left (λ m. told ++ puts_at m (told_signs answer)) same
          own
          (heard (track_spec r) (ReaderStands r.reader) (ReaderStands now.reader) r.tape now.tape r.track r.moment false
          false taken input left near rest (take many input) told answer st near_is go.goes
          (sym (ap (λ n. take n input) many_is
          ∙ taken-is near go.goes.taken rest input (to_come r.tape) near_is go.goes.front))
          front takes to_come_is (λ e. absurd (false≢true e)));
    }

abbrev pub ReaderTold : (r : TrackReader) (near : List ℕ) → Type 0
ReaderTold r near =
    (recorded : List ℕ) (told : List Known) → ReaderStands r.reader recorded told →
    IsFront told (known (track_spec r) (recorded ++ near)) → told ≡ known (track_spec r) (recorded ++ near)

pub read-all : (r now : TrackReader) (input left near rest : List ℕ) (many : ℕ) (answer : List Told) (at : ℕ → ℕ) →
    r.own ≡ true → IsSameTrack r now → near ≡ take (to_come r.tape) input → many ≡ length near - length rest →
    input ≡ take many input ++ left → TapeTakes r.tape now.tape (take many input) [] (map RecordByte (take many
    input)) →
    to_come now.tape + length (take many input) ≡ to_come r.tape → ReaderCall r now near rest answer at →
    answer ≡ [] → rest ≡ [] → ReaderTold r near →
    (taken : List ℕ) (told : List Put) → TrackStands r taken input told →
    (bytes : List ℕ) × (input ≡ bytes ++ left) × TrackQuiet now (taken ++ bytes) left told
read-all r now input left near rest many answer at own same near_is many_is front takes to_come_is call none used all =
    λ taken told stands.
    let st = own-stands r taken input told own stands in
    let records : List ℕ = recording r.track (st.ended ++ as_it_stands st.under) in
    let still = subst (λ (xs : List ℕ). IsFront st.known_told (known (track_spec r) (records ++ xs))) (sym near_is)
    st.still in
    let go = call records st.known_told st.of_reader still in
    let same_bytes : go.goes.taken ≡ take many input
    = sym (ap (λ n. take n input) many_is
    ∙ taken-is near go.goes.taken rest input (to_come r.tape) near_is go.goes.front) in (
      take many input,
      front,
      record {
        stands =
            stands-now r now true (λ z. true) (taken ++ take many input) left (λ m. told) same own
            (heard-all (track_spec r) (ReaderStands r.reader) (ReaderStands now.reader) r.tape now.tape r.track r.moment
            false taken input left near rest (take many input) told answer st near_is go.goes same_bytes front takes
            to_come_is none used (all records st.known_told st.of_reader still));
        none_next =
            subst (λ (z : Bool). next_own z now.tape left ≡ []) (sym (same.own ∙ own))
            (none-next near rest (take many input) go.goes.taken input left (to_come r.tape) (to_come now.tape) near_is
            front to_come_is go.goes.front same_bytes used);
      },
    )

-- no record of the track is under way
pub other-quiet : (r : TrackReader) (input : List ℕ) → r.own ≡ false →
    (taken : List ℕ) (told : List Put) → TrackStands r taken input told →
    (bytes : List ℕ) × (input ≡ bytes ++ input) × TrackQuiet r (taken ++ bytes) input told
other-quiet r input other = λ taken told st. (
  [],
  refl,
  subst (λ (xs : List ℕ). TrackQuiet r xs input told) (sym (append-nil taken)) (record {
    stands =
        subst (λ (z : Bool). TrackStandsBy (track_spec r) (ReaderStands r.reader) r.tape r.track r.own (not z)
        r.moment taken input told) other st;
    none_next = subst (λ (z : Bool). next_own z r.tape input ≡ []) (sym other) refl;
  }),
)

pub cut-then : (x y : Bool) (tape_cut : Bool) → tape_cut ≡ not x → tape_cut ≡ true → tape_cut ≡ not (x && y)
cut-then true y tape_cut e is = absurd (false≢true (sym e ∙ is))
cut-then false y tape_cut e is = e

pub cut-else : (x y : Bool) (tape_cut reader_cut : Bool) → tape_cut ≡ not x → tape_cut ≡ false → reader_cut ≡ not y →
    reader_cut ≡ not (x && y)
cut-else true y tape_cut reader_cut e is f = f
cut-else false y tape_cut reader_cut e is f = absurd (false≢true (sym is ∙ e))

-- the end of the recording
pub end-told : (r : TrackReader) (bytes : List ℕ) (ev : Ev) → TrackTold r bytes →
    told_by (seen.Ev ev) ≡ end_told (track_spec r) (recording r.track (track_records bytes)) →
    puts_at r.moment (signs_of_event ev) ≡ track_end (track_spec r) r.track bytes
end-told r bytes ev t e =
    ap (puts_at r.moment) (sym (told_signs-seen (seen.Ev ev)) ∙ ap told_signs e)
    ∙ ap (λ m. puts_at m (told_signs (end_told (track_spec r) (recording r.track (track_records bytes))))) t.moment

-- of an answer that is none

pub if-none : {T : Type 0} (o : Option T) (P : Type 0) → (o ≡ None → P) → IfNone o P
if-none None P f = f refl
if-none (Some x) P f = tt

pub of-none : {T : Type 0} (o : Option T) (P : Type 0) → o ≡ None → IfNone o P → P
of-none None P e p = p
of-none (Some x) P e p = cc

pub quiet-then : (a b c : TrackReader) (i j k : List ℕ) → TrackGoes a b i j [] →
    ((taken : List ℕ) (told : List Put) → TrackStands b taken j told →
    (bytes : List ℕ) × (j ≡ bytes ++ k) × TrackQuiet c (taken ++ bytes) k told) →
    (taken : List ℕ) (told : List Put) → TrackStands a taken i told →
    (bytes : List ℕ) × (i ≡ bytes ++ k) × TrackQuiet c (taken ++ bytes) k told
quiet-then a b c i j k first second = λ taken told st.
    let f = first taken told st in
    let g = second (taken ++ f.bytes) told
    (subst (λ (ps : List Put). TrackStands b (taken ++ f.bytes) j ps) (append-nil told) f.stands) in (
      f.bytes ++ g.0,
      f.front ∙ (ap (λ xs. f.bytes ++ xs) g.1 ∙ sym (append_assoc f.bytes g.0 k)),
      subst (λ (xs : List ℕ). TrackQuiet c xs k told) (append_assoc taken f.bytes g.0) g.2,
    )

pub goes-by : (a b : TrackReader) (i j : List ℕ) (signs others : List Sign) → signs ≡ others →
    TrackGoes a b i j signs → TrackGoes a b i j others
goes-by a b i j signs others e f = subst (λ (ms : List Sign). TrackGoes a b i j ms) e f

pub same-then : (a b c : TrackReader) → IsSameTrack a b → IsSameTrack b c → IsSameTrack a c
same-then a b c s t = record {
  spec = t.spec ∙ s.spec;
  track = t.track ∙ s.track;
  own = t.own ∙ s.own;
  moment = t.moment ∙ s.moment;
}

pub same-self : (a : TrackReader) → IsSameTrack a a
same-self a = record { spec = refl; track = refl; own = refl; moment = refl }

-- a part of the tape behind what the port's reader told

abbrev pub QuietBehind : (a r : TrackReader) (i j : List ℕ) → Type 0
QuietBehind a r i j =
    (taken : List ℕ) (told : List Put) → TrackStands a taken i told →
    (bytes : List ℕ) × (i ≡ bytes ++ j) × TrackQuiet r (taken ++ bytes) j told

abbrev Quietly : TrackReader → (taken next : List ℕ) → (told : List Put) → Type 0
Quietly r taken next told =
    TrackStandsBy (track_spec r) (ReaderStands r.reader) r.tape r.track r.own true r.moment taken next told

pub part-goes : (a r now : TrackReader) (i j k : List ℕ) (news : List RecordPart) → QuietBehind a r i j →
    TapeTakes r.tape now.tape j k news →
    ((taken bytes : List ℕ) (told : List Put) → next_own r.own r.tape j ≡ [] → (st : Quietly r taken j told) →
    TapeStands now.tape (taken ++ bytes) (st.parts ++ news) → TrackStands now (taken ++ bytes) k told) →
    TrackGoes a now i k []
part-goes a r now i j k news quiet step part = λ taken told st.
    let q = quiet taken told st in
    let stands = q.2.stands in
    let t = stands-takes r.tape now.tape j k news (taken ++ q.0) stands.parts stands.of_tape step in
    record {
      bytes = q.0 ++ t.0;
      front = q.1 ∙ (ap (λ xs. q.0 ++ xs) t.1 ∙ sym (append_assoc q.0 t.0 k));
      stands =
          subst (λ (ps : List Put). TrackStands now (taken ++ (q.0 ++ t.0)) k ps) (sym (append-nil told))
          (subst (λ (xs : List ℕ). TrackStands now xs k told) (append_assoc taken q.0 t.0)
          (part (taken ++ q.0) t.0 told q.2.none_next stands t.2));
    }

pub part-over : (a r : TrackReader) (tape_now : TapeState) (i j k : List ℕ) (fault : Option TapeFault) (s : Spec)
    (track : ℕ) → QuietBehind a r i j → TapeTakes r.tape tape_now j k [] →
    ((bytes : List ℕ) (parts : List RecordPart) → TapeStands tape_now bytes parts →
    TapeStands tape_now (bytes ++ k) parts) →
    parts_from tape_now [] ≡ [] →
    ((bytes : List ℕ) (parts : List RecordPart) → TapeStands tape_now bytes parts → tape_fault bytes ≡ fault) →
    track_spec r ≡ s → r.track ≡ track → (taken : List ℕ) (told : List Put) → TrackStands a taken i told →
    TrackTold (record r { tape = tape_now }) (taken ++ i) × (told ≡ track_marks_so_far s track (taken ++ i))
    × (tape_fault (taken ++ i) ≡ fault)
part-over a r tape_now i j k fault s track quiet step on none ends spec_is track_is = λ taken told st.
    let q = quiet taken told st in
    let stands = q.2.stands in
    let t = stands-takes r.tape tape_now j k [] (taken ++ q.0) stands.parts stands.of_tape step in
    let all : (taken ++ q.0) ++ (t.0 ++ k) ≡ taken ++ i
    = append_assoc taken q.0 (t.0 ++ k) ∙ ap (λ xs. taken ++ xs) (sym (q.1 ∙ ap (λ xs. q.0 ++ xs) t.1)) in
    let tape_stands : TapeStands tape_now (taken ++ i) (stands.parts ++ [])
    = subst (λ (xs : List ℕ). TapeStands tape_now xs (stands.parts ++ []))
    (append_assoc (taken ++ q.0) t.0 k ∙ all) (on ((taken ++ q.0) ++ t.0) (stands.parts ++ []) t.2) in
    let now : TrackStandsBy (track_spec r) (ReaderStands r.reader) tape_now r.track r.own true r.moment (taken ++ i) []
    told
    = subst (λ (xs : List ℕ). TrackStandsBy (track_spec r) (ReaderStands r.reader) tape_now r.track r.own true
    r.moment xs
    [] told) all
    (part-none (track_spec r) (ReaderStands r.reader) r.tape tape_now r.track r.own true r.moment (taken ++ q.0) j []
    (t.0 ++ k) told stands
    (subst (λ (xs : List ℕ). TapeStands tape_now xs (stands.parts ++ [])) (sym all) tape_stands)) in (
      over-all (record r { tape = tape_now }) (taken ++ i) [] told now none,
      over-told (track_spec r) (ReaderStands r.reader) tape_now r.track r.own r.moment (taken ++ i) [] told now none
          ∙ (ap (λ z. track_marks_so_far z r.track (taken ++ i)) spec_is
          ∙ ap (λ z. track_marks_so_far s z (taken ++ i)) track_is),
      ends (taken ++ i) (stands.parts ++ []) tape_stands,
    )

pub own-none : (own : Bool) (tape : TapeState) (input : List ℕ) (bytes : Bor (List ℕ)) → next_own own tape input ≡ [] →
    LongestBy tape.place input (part.Bytes bytes) → own ≡ false
own-none true tape input bytes none longest = absurd (no-own-bytes tape.place input bytes none longest)
own-none false tape input bytes none longest = refl

-- what may be told before a byte is taken

pub own-owed : (own : Bool) (r : PortReader) → (if own then 1 + reader_owed r else 0) ≤ 3
own-owed true r = omega (arith, owed-few r)
own-owed false r = omega arith

pub longest-of : (o : Option TapePart) (tape : TapeState) (input : List ℕ) (bytes : Bor (List ℕ)) →
    o ≡ Some (part.Bytes bytes) → TapeLongest tape input o → LongestBy tape.place input (part.Bytes bytes)
longest-of o tape input bytes e longest = subst (λ (z : Option TapePart). TapeLongest tape input z) e longest

pub progress-of : (o : Option TapePart) (p : TapePart) (P : Type 0) → o ≡ Some p → IfTold (Ok o) P → P
progress-of None p P e told = cc
progress-of (Some q) p P e told = told

pub fewer-left : (old now : TapeState) (input left : List ℕ) (news : List RecordPart) →
    TapeTakes old now input left news → length left ≤ length input
fewer-left old now input left news t = omega (arith, ap length t.front ∙ length-append t.taken left)

pub fresh-told : (r : TrackReader) → r.own ≡ false → r.moment ≡ 0 → TapeStands r.tape [] [] →
    ReaderStands r.reader [] [] → parts_from r.tape [] ≡ [] → TrackTold r []
fresh-told r own at tape_stands reads none =
    over-all r [] [] []
    (subst (λ (z : Bool). TrackStandsBy (track_spec r) (ReaderStands r.reader) r.tape r.track z true r.moment [] [] [])
    (sym own)
    (subst (λ (z : ℕ). TrackStandsBy (track_spec r) (ReaderStands r.reader) r.tape r.track false true z [] [] []) (sym at)
    (fresh-stands (track_spec r) (ReaderStands r.reader) r.tape r.track [] tape_stands reads))) none
