-- Records behind records, and a record that goes on.
use Rattle.std.proofs.Common.{◌≡◌, ℕ, Bool, true, false, List, [], ◌∷◌, ◌++◌, map, refl, sym, ◌∙◌, ap}
use Rattle.std.proofs.Common.{append_assoc, append-nil, Option, Some, None}
use Rattle.std.specs.Prelude.{◌==◌, if◌then◌else◌}
use Rattle.std.proofs.lemmas.List.Concat.{flat_map-append}
use Rattle.mb_frames.specs.Tapes.{Record, RecordPart, RecordBegin, RecordByte, RecordEnd}
use Rattle.mb_track.specs.Track.{as_it_stands, begun, bytes_on, last_record_moment, recording, records_from, with_bytes}
use Rattle.std.proofs.lemmas.Bool.{false≢true}
use Rattle.mb_track.specs.TrackReading.{is_own}

pub recording-append : (track : ℕ) (rs qs : List Record) →
    recording track (rs ++ qs) ≡ recording track rs ++ recording track qs
recording-append track rs qs = flat_map-append (bytes_on track) rs qs

-- the record under way with these bytes more
abbrev pub longer : Option Record → List ℕ → Option Record
longer None bytes = None
longer (Some r) bytes = Some (with_bytes r bytes)

pub no_bytes : (r : Record) → with_bytes r [] ≡ r
no_bytes r = ap (λ xs. record r { bytes = xs }) (append-nil r.bytes)

pub twice : (r : Record) (xs ys : List ℕ) → with_bytes (with_bytes r xs) ys ≡ with_bytes r (xs ++ ys)
twice r xs ys = ap (λ zs. record r { bytes = zs }) (append_assoc r.bytes xs ys)

pub records-bytes : (under : Option Record) (bytes : List ℕ) (more : List RecordPart) →
    records_from under (map RecordByte bytes ++ more) ≡ records_from (longer under bytes) more
records-bytes None [] more = refl
records-bytes None (b ∷ bs) more = records-bytes None bs more
records-bytes (Some r) [] more = ap (λ (q : Record). records_from (Some q) more) (sym (no_bytes r))
records-bytes (Some r) (b ∷ bs) more =
    records-bytes (Some (with_bytes r (b ∷ []))) bs more
    ∙ ap (λ (q : Record). records_from (Some q) more) (twice r (b ∷ []) bs)

-- what the records before and the one under way are, whatever follows
abbrev pub CutAt : (parts : List RecordPart) (ended : List Record) (under : Option Record) → Type 0
CutAt parts ended under = (more : List RecordPart) → records_from None (parts ++ more) ≡ ended ++ records_from under
    more

pub cut-bytes : (parts : List RecordPart) (ended : List Record) (under : Option Record) (bytes : List ℕ) →
    CutAt parts ended under → CutAt (parts ++ map RecordByte bytes) ended (longer under bytes)
cut-bytes parts ended under bytes cut = λ more.
    ap (records_from None) (append_assoc parts (map RecordByte bytes) more)
    ∙ (cut (map RecordByte bytes ++ more) ∙ ap (λ rs. ended ++ rs) (records-bytes under bytes more))

from-begin : (under : Option Record) (moment track len : ℕ) (more : List RecordPart) →
    records_from under (RecordBegin moment track len ∷ more) ≡
    as_it_stands under ++ records_from (Some (begun moment track)) more
from-begin None moment track len more = refl
from-begin (Some r) moment track len more = refl

from-end : (under : Option Record) (more : List RecordPart) →
    records_from under (RecordEnd ∷ more) ≡ as_it_stands under ++ records_from None more
from-end None more = refl
from-end (Some r) more = refl

pub cut-begin : (parts : List RecordPart) (ended : List Record) (under : Option Record) (moment track len : ℕ) →
    CutAt parts ended under →
    CutAt (parts ++ RecordBegin moment track len ∷ []) (ended ++ as_it_stands under) (Some (begun moment track))
cut-begin parts ended under moment track len cut = λ more.
    ap (records_from None) (append_assoc parts (RecordBegin moment track len ∷ []) more)
    ∙ (cut (RecordBegin moment track len ∷ more)
    ∙ (ap (λ rs. ended ++ rs) (from-begin under moment track len more)
    ∙ sym (append_assoc ended (as_it_stands under) (records_from (Some (begun moment track)) more))))

pub cut-end : (parts : List RecordPart) (ended : List Record) (under : Option Record) → CutAt parts ended under →
    CutAt (parts ++ RecordEnd ∷ []) (ended ++ as_it_stands under) None
cut-end parts ended under cut = λ more.
    ap (records_from None) (append_assoc parts (RecordEnd ∷ []) more)
    ∙ (cut (RecordEnd ∷ more)
    ∙ (ap (λ rs. ended ++ rs) (from-end under more)
    ∙ sym (append_assoc ended (as_it_stands under) (records_from None more))))

pub cut-none : (parts : List RecordPart) (ended : List Record) (under : Option Record) → CutAt parts ended under →
    CutAt (parts ++ []) ended under
cut-none parts ended under cut = λ more. ap (λ ps. records_from None (ps ++ more)) (append-nil parts) ∙ cut more

none-more : (under : Option Record) → records_from under [] ≡ as_it_stands under
none-more None = refl
none-more (Some r) = refl

-- the records are those before and the one under way
pub cut-all : (parts : List RecordPart) (ended : List Record) (under : Option Record) → CutAt parts ended under →
    records_from None parts ≡ ended ++ as_it_stands under
cut-all parts ended under cut =
    ap (records_from None) (sym (append-nil parts)) ∙ (cut [] ∙ ap (λ rs. ended ++ rs) (none-more under))

-- a record of the track has its bytes on it, and one of another track none

pub own-bytes : (track : ℕ) (r : Record) → (r.track == track) ≡ true → bytes_on track r ≡ r.bytes
own-bytes track r e = ap (λ (t : Bool). if t then r.bytes else []) e

pub other-bytes : (track : ℕ) (r : Record) → (r.track == track) ≡ false → bytes_on track r ≡ []
other-bytes track r e = ap (λ (t : Bool). if t then r.bytes else []) e

one-recording : (track : ℕ) (r : Record) → recording track (r ∷ []) ≡ bytes_on track r
one-recording track r = append-nil (bytes_on track r)

pub longer-own : (track : ℕ) (ended : List Record) (under : Option Record) (bytes : List ℕ) →
    is_own track under ≡ true →
    recording track (ended ++ as_it_stands (longer under bytes)) ≡
    recording track (ended ++ as_it_stands under) ++ bytes
longer-own track ended None bytes e = absurd (false≢true e)
longer-own track ended (Some r) bytes e =
    recording-append track ended (with_bytes r bytes ∷ [])
    ∙ (ap (λ xs. recording track ended ++ xs)
    (one-recording track (with_bytes r bytes) ∙ (own-bytes track (with_bytes r bytes) e
    ∙ ap (λ xs. xs ++ bytes) (sym (one-recording track r ∙ own-bytes track r e))))
    ∙ (sym (append_assoc (recording track ended) (recording track (r ∷ [])) bytes)
    ∙ ap (λ xs. xs ++ bytes) (sym (recording-append track ended (r ∷ [])))))

pub longer-other : (track : ℕ) (ended : List Record) (under : Option Record) (bytes : List ℕ) →
    is_own track under ≡ false →
    recording track (ended ++ as_it_stands (longer under bytes)) ≡ recording track (ended ++ as_it_stands under)
longer-other track ended None bytes e = refl
longer-other track ended (Some r) bytes e =
    recording-append track ended (with_bytes r bytes ∷ [])
    ∙ (ap (λ xs. recording track ended ++ xs)
    (one-recording track (with_bytes r bytes) ∙ (other-bytes track (with_bytes r bytes) e
    ∙ sym (one-recording track r ∙ other-bytes track r e)))
    ∙ sym (recording-append track ended (r ∷ [])))

pub longer-is-own : (track : ℕ) (under : Option Record) (bytes : List ℕ) →
    is_own track (longer under bytes) ≡ is_own track under
longer-is-own track None bytes = refl
longer-is-own track (Some r) bytes = refl

begun-bytes : (track moment other : ℕ) → bytes_on track (begun moment other) ≡ []
begun-bytes track moment other = by (other == track) [] refl where
  by : (t : Bool) (xs : List ℕ) → xs ≡ [] → (if t then xs else []) ≡ []
  by true xs e = e
  by false xs e = refl

-- a record that begins has none yet
pub begun-recording : (track moment other : ℕ) (ended : List Record) →
    recording track (ended ++ begun moment other ∷ []) ≡ recording track ended
begun-recording track moment other ended =
    recording-append track ended (begun moment other ∷ [])
    ∙ (ap (λ xs. recording track ended ++ xs)
    (one-recording track (begun moment other) ∙ begun-bytes track moment other)
    ∙ append-nil (recording track ended))

-- the moment of the last record

last-push : (rs : List Record) (r : Record) → last_record_moment (rs ++ r ∷ []) ≡ r.moment
last-push [] r = refl
last-push (q ∷ []) r = refl
last-push (q ∷ s ∷ rs) r = last-push (s ∷ rs) r

pub begun-moment : (ended : List Record) (moment track : ℕ) →
    last_record_moment (ended ++ as_it_stands (Some (begun moment track))) ≡ moment
begun-moment ended moment track = last-push ended (begun moment track)

pub longer-moment : (ended : List Record) (under : Option Record) (bytes : List ℕ) →
    last_record_moment (ended ++ as_it_stands (longer under bytes)) ≡
    last_record_moment (ended ++ as_it_stands under)
longer-moment ended None bytes = refl
longer-moment ended (Some r) bytes = last-push ended (with_bytes r bytes) ∙ sym (last-push ended r)

pub under-moment : (ended : List Record) (r : Record) → last_record_moment (ended ++ as_it_stands (Some r)) ≡ r.moment
under-moment ended r = last-push ended r
