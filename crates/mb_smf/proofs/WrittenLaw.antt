-- What is written of marks is a file of events, and is read as their bytes.
use Rattle.std.proofs.Common.{◌≡◌, ℕ, ◌+◌, ◌-◌, ◌*◌, ◌/◌, ◌^◌, ◌<◌, ◌≤◌, ◌&&◌, Bool, true, false, not, nat_lt, nat_le}
use Rattle.std.proofs.Common.{if◌then◌else◌, List, [], ◌∷◌, ◌++◌, length, flat_map, Option, Some, None, refl, sym, ◌∙◌}
use Rattle.std.proofs.Common.{ap, subst, arith, length-append}
use Rattle.std.specs.List.{list_all}
use Rattle.std.proofs.lemmas.Bool.{false≢true}
use Rattle.std.proofs.lemmas.Bool.Decides.{nat_tests}
use Rattle.mb_message.specs.Bytes.{is_channel, is_short}
use Rattle.mb_message.specs.Signs.{Sign, ShortSign, RtSign, OpenSign, ByteSign, EndSign, AbortSign}
use Rattle.mb_stream.specs.Denotation.{stays_open}
use Rattle.mb_stream.specs.Puts.{Put, At, Flush, signs_in}
use Rattle.mb_stream.specs.Spelling.{spelled}
use Rattle.mb_stream.specs.Standing.{is_valid}
use Rattle.mb_smf.specs.TrackTime.{TrackTime, ticks_later, track_moment}
use Rattle.mb_smf.specs.Smf.{given_at, smf, smf_ended}
use Rattle.mb_smf.specs.SmfEvents.{plain_file}
use Rattle.mb_smf.specs.SmfEvents.{AreEvents, ChannelEvent, DeltaEvent, EscapeEvent, IsEvent, IsMidiFile}
use Rattle.mb_smf.specs.SmfEvents.{MetaEvent, RunningEvent, SysexEvent, TrackEvent, delta_bytes}
use Rattle.mb_smf.specs.SmfEvents.{end_event, event_bytes, event_given, events_bytes, events_given}
use Rattle.mb_smf.specs.SmfEvents.{quantity, running_behind, tempo_behind, time_behind}
use Rattle.mb_smf.specs.SmfWritten.{CanBeWritten, MomentEvent, a_second, all_given, data_behind, deltas}
use Rattle.mb_smf.specs.SmfWritten.{event_by, given_since, is_gap, last_event, longest, moments_rise, none_late_from}
use Rattle.mb_smf.specs.SmfWritten.{recorded, recorded_from, short_event, smf_written}
use Rattle.mb_smf.specs.SmfWritten.{written_events, written_given, written_track}
use Rattle.mb_smf.proofs.EventLemmas.{and-first, and-second}
use Rattle.mb_smf.proofs.FileLaw.{file-ended, file-read}

-- the events of marks are of three kinds, near each other, and their moments rise

abbrev IsOwn : TrackEvent → Type 0
IsOwn (ChannelEvent s a b) = (is_channel s ≡ true) × (is_short s a b ≡ true)
IsOwn (SysexEvent bytes) = Unit {0}
IsOwn (EscapeEvent bytes) = Unit {0}
IsOwn (RunningEvent s a b) = ⊥
IsOwn (MetaEvent type bytes) = ⊥

abbrev AreRight : (found : Option ℕ) → (low : ℕ) → List MomentEvent → Type 0
AreRight found low [] = Unit {0}
AreRight found low (e ∷ es) = (is_gap found e.moment ≡ false) × (low ≤ e.moment) × (e.moment < 2 ^ 64) ×
    IsOwn e.event × AreRight (Some e.moment) e.moment es

not-false : (q : Bool) → not q ≡ true → q ≡ false
not-false false h = refl
not-false true h = absurd (false≢true h)

no-gap : (m : ℕ) → is_gap (Some m) m ≡ false
no-gap m =
    let none : m / 1000 - m / 1000 ≡ 0 = omega arith in
    ap (nat_lt longest) none

own-short : (s a b : ℕ) → is_short s a b ≡ true → IsOwn (short_event s a b)
own-short s a b short = by (is_channel s) refl where
  by : (q : Bool) → is_channel s ≡ q → IsOwn (if q then ChannelEvent s a b else EscapeEvent (spelled (ShortSign s a b)))
  by true channel = (channel, short)
  by false other = tt

lower-or-same : (a b : ℕ) → nat_le a b ≡ true → a ≤ b
lower-or-same a b h = grind (arith, nat_tests)

lower : (a b : ℕ) → nat_lt a b ≡ true → a < b
lower a b h = grind (arith, nat_tests)

-- what is asked of marks, at the next one
record NextPut (found : Option ℕ) (ds : List ℕ) (last m : ℕ) (s : Sign) (puts : List Put) : Type 0 where
  pub gap : is_gap found m ≡ false
  pub rises : last ≤ m
  pub near : m < 2 ^ 64
  pub is_valid_now : is_valid s ≡ true
  pub valid : list_all is_valid (signs_in puts) ≡ true
  pub rise : moments_rise m puts ≡ true
  pub late : none_late_from (last_event found (event_by ds m s)) (data_behind ds s) puts ≡ true

next-put : (found : Option ℕ) (ds : List ℕ) (last m : ℕ) (s : Sign) (puts : List Put) →
    moments_rise last (At m s ∷ puts) ≡ true → list_all is_valid (s ∷ signs_in puts) ≡ true →
    none_late_from found ds (At m s ∷ puts) ≡ true → NextPut found ds last m s puts
next-put found ds last m s puts rise valid late =
    let behind : Bool = none_late_from (last_event found (event_by ds m s)) (data_behind ds s) puts in
    let both : (nat_le last m && nat_lt m (2 ^ 64)) ≡ true =
    and-first (nat_le last m && nat_lt m (2 ^ 64)) (moments_rise m puts) rise in
    record {
      gap = not-false (is_gap found m) (and-first (not (is_gap found m)) behind late);
      rises = lower-or-same last m (and-first (nat_le last m) (nat_lt m (2 ^ 64)) both);
      near = lower m (2 ^ 64) (and-second (nat_le last m) (nat_lt m (2 ^ 64)) both);
      is_valid_now = and-first (is_valid s) (list_all is_valid (signs_in puts)) valid;
      valid = and-second (is_valid s) (list_all is_valid (signs_in puts)) valid;
      rise = and-second (nat_le last m && nat_lt m (2 ^ 64)) (moments_rise m puts) rise;
      late = and-second (not (is_gap found m)) behind late;
    }

right-from : (puts : List Put) (ds : List ℕ) (o : Bool) (last low : ℕ) (found : Option ℕ) → low ≤ last →
    last < 2 ^ 64 → is_gap found last ≡ false → moments_rise last puts ≡ true →
    list_all is_valid (signs_in puts) ≡ true → none_late_from found ds puts ≡ true →
    AreRight found low (recorded_from ds o last puts)
right-from [] ds false last low found above near gap rise valid late = tt
right-from [] ds true last low found above near gap rise valid late = (gap, above, near, tt, tt)
right-from (Flush ∷ puts) ds o last low found above near gap rise valid late =
    right-from puts ds o last low found above near gap rise valid late
right-from (At m (ShortSign s a b) ∷ puts) ds o last low found above near gap rise valid late =
    let n : NextPut found ds last m (ShortSign s a b) puts =
    next-put found ds last m (ShortSign s a b) puts rise valid late in
    let more : AreRight (Some m) m (recorded_from ds (stays_open o (ShortSign s a b ∷ [])) m puts) =
    right-from puts ds (stays_open o (ShortSign s a b ∷ [])) m m (Some m) (omega arith) n.near (no-gap m) n.rise n.valid
    n.late in
    (n.gap, omega (arith, above, n.rises), n.near, own-short s a b n.is_valid_now, more)
right-from (At m (RtSign b) ∷ puts) ds o last low found above near gap rise valid late =
    let n : NextPut found ds last m (RtSign b) puts = next-put found ds last m (RtSign b) puts rise valid late in
    let more : AreRight (Some m) m (recorded_from ds o m puts) =
    right-from puts ds o m m (Some m) (omega arith) n.near (no-gap m) n.rise n.valid n.late in
    (n.gap, omega (arith, above, n.rises), n.near, tt, more)
right-from (At m OpenSign ∷ puts) ds o last low found above near gap rise valid late =
    let n : NextPut found ds last m OpenSign puts = next-put found ds last m OpenSign puts rise valid late in
    right-from puts [] true m low found (omega (arith, above, n.rises)) n.near n.gap n.rise n.valid n.late
right-from (At m (ByteSign b) ∷ puts) ds o last low found above near gap rise valid late =
    let n : NextPut found ds last m (ByteSign b) puts = next-put found ds last m (ByteSign b) puts rise valid late in
    right-from puts (ds ++ b ∷ []) o m low found (omega (arith, above, n.rises)) n.near n.gap n.rise n.valid n.late
right-from (At m EndSign ∷ puts) ds o last low found above near gap rise valid late =
    let n : NextPut found ds last m EndSign puts = next-put found ds last m EndSign puts rise valid late in
    let more : AreRight (Some m) m (recorded_from [] false m puts) =
    right-from puts [] false m m (Some m) (omega arith) n.near (no-gap m) n.rise n.valid n.late in
    (n.gap, omega (arith, above, n.rises), n.near, tt, more)
right-from (At m AbortSign ∷ puts) ds o last low found above near gap rise valid late =
    let n : NextPut found ds last m AbortSign puts = next-put found ds last m AbortSign puts rise valid late in
    let more : AreRight (Some m) m (recorded_from [] false m puts) =
    right-from puts [] false m m (Some m) (omega arith) n.near (no-gap m) n.rise n.valid n.late in
    (n.gap, omega (arith, above, n.rises), n.near, tt, more)

-- such events can be in a file, and give what is said

is-event : (v : TrackEvent) (r : Option ℕ) → IsOwn v → length (event_bytes v) ≤ longest → IsEvent r v
is-event (ChannelEvent s a b) r own short = own
is-event (SysexEvent bytes) r own short = omega (arith, short, length-append (quantity (length bytes)) bytes)
is-event (EscapeEvent bytes) r own short = omega (arith, short, length-append (quantity (length bytes)) bytes)
is-event (RunningEvent s a b) r own short = absurd own
is-event (MetaEvent type bytes) r own short = absurd own

tempo-same : (v : TrackEvent) (tempo : ℕ) → IsOwn v → tempo_behind tempo v ≡ tempo
tempo-same (ChannelEvent s a b) tempo own = refl
tempo-same (SysexEvent bytes) tempo own = refl
tempo-same (EscapeEvent bytes) tempo own = refl
tempo-same (RunningEvent s a b) tempo own = absurd own
tempo-same (MetaEvent type bytes) tempo own = absurd own

-- the time at a moment, the first event's being known
abbrev time_at : (first moment : ℕ) → TrackTime
time_at first moment =
    record { division = 1000; tempo = 1000000; sum = 1000000 * (moment / 1000 - first / 1000) }

abbrev the_delta : (was : ℕ) → MomentEvent → DeltaEvent
the_delta was e = record { delta = e.moment / 1000 - was / 1000; event = e.event }

later-time : (first was m : ℕ) → first ≤ was → was ≤ m →
    ticks_later (time_at first was) (m / 1000 - was / 1000) ≡ time_at first m
later-time first was m one two =
    let e : 1000000 * (was / 1000 - first / 1000) + (m / 1000 - was / 1000) * 1000000
    ≡ 1000000 * (m / 1000 - first / 1000) = omega (arith, one, two) in
    ap (λ n. record { division = 1000; tempo = 1000000; sum = n }) e

the-moment : (first m : ℕ) → track_moment (time_at first m) ≡ 1000 * (m / 1000 - first / 1000)
the-moment first m = omega arith

next-time : (first was : ℕ) (e : MomentEvent) → first ≤ was → was ≤ e.moment → IsOwn e.event →
    time_behind (time_at first was) (the_delta was e) ≡ time_at first e.moment
next-time first was e one two own =
    ap (λ n. record {
      division = 1000;
      tempo = n;
      sum = (ticks_later (time_at first was) (e.moment / 1000 - was / 1000)).sum;
    }) (tempo-same e.event 1000000 own)
    ∙ later-time first was e.moment one two

length-first : (d : DeltaEvent) (ds : List DeltaEvent) → length (events_bytes (d ∷ ds))
    ≡ length (quantity d.delta) + length (event_bytes d.event) + length (events_bytes ds)
length-first d ds = omega (
  arith,
  length-append (delta_bytes d) (events_bytes ds),
  length-append (quantity d.delta) (event_bytes d.event),
)

events-are : (es : List MomentEvent) (first was : ℕ) (r : Option ℕ) → first ≤ was → was < 2 ^ 64 →
    AreRight (Some was) was es → length (events_bytes (deltas (Some was) es)) ≤ longest →
    AreEvents (time_at first was) r (deltas (Some was) es) 0
events-are [] first was r above near right short =
    record { fits = omega arith; near = omega (arith, near) }
events-are (e ∷ es) first was r above near right short =
    let d : DeltaEvent = the_delta was e in
    let ds : List DeltaEvent = deltas (Some e.moment) es in
    let len : length (events_bytes (d ∷ ds))
    ≡ length (quantity d.delta) + length (event_bytes d.event) + length (events_bytes ds) = length-first d ds in
    let fits : d.delta < 2 ^ 28 = grind (arith, nat_tests, right.0) in
    let moment : track_moment (ticks_later (time_at first was) d.delta) ≡ 1000 * (e.moment / 1000 - first / 1000) =
    ap track_moment (later-time first was e.moment above right.1) ∙ the-moment first e.moment in
    let more : AreEvents (time_at first e.moment) (running_behind e.event) ds 0 =
    events-are es first e.moment (running_behind e.event) (omega (arith, above, right.1)) right.2 right.4
    (omega (arith, short, len)) in (
      record { fits = fits; near = omega (arith, moment, right.2) },
      is-event e.event r right.3 (omega (arith, short, len)),
      subst (λ t. AreEvents t (running_behind e.event) ds 0) (sym (next-time first was e above right.1 right.3)) more,
    )

events-give : (es : List MomentEvent) (first was : ℕ) → first ≤ was → AreRight (Some was) was es →
    events_given (time_at first was) (deltas (Some was) es) ≡ flat_map (given_since first) es
events-give [] first was above right = refl
events-give (e ∷ es) first was above right =
    let d : DeltaEvent = the_delta was e in
    let ds : List DeltaEvent = deltas (Some e.moment) es in
    let moment : track_moment (ticks_later (time_at first was) d.delta) ≡ 1000 * (e.moment / 1000 - first / 1000) =
    ap track_moment (later-time first was e.moment above right.1) ∙ the-moment first e.moment in
    ap (λ n. given_at n (event_given e.event) ++ events_given (time_behind (time_at first was) d) ds) moment
    ∙ (ap (λ t. given_since first e ++ events_given t ds) (next-time first was e above right.1 right.3)
    ∙ ap (λ z. given_since first e ++ z)
    (events-give es first e.moment (omega (arith, above, right.1)) right.4))

-- the first event, behind which all moments count

first-same : (e : MomentEvent) (es : List MomentEvent) → deltas None (e ∷ es) ≡ deltas (Some e.moment) (e ∷ es)
first-same e es =
    let none : 0 ≡ e.moment / 1000 - e.moment / 1000 = omega arith in
    ap (λ n. record { delta = n; event = e.event } ∷ deltas (Some e.moment) es) none

first-right : (e : MomentEvent) (es : List MomentEvent) (low : ℕ) → AreRight None low (e ∷ es) →
    AreRight (Some e.moment) e.moment (e ∷ es)
first-right e es low right = (no-gap e.moment, omega arith, right.2, right.3, right.4)

-- behind the tempo
abbrev begun : TrackTime
begun = record { division = 1000; tempo = 1000000; sum = 0 }

begun-is : (m : ℕ) → time_at m m ≡ begun
begun-is m =
    let none : 1000000 * (m / 1000 - m / 1000) ≡ 0 = omega arith in
    ap (λ n. record { division = 1000; tempo = 1000000; sum = n }) none

all-are : (es : List MomentEvent) (low : ℕ) → AreRight None low es →
    length (events_bytes (deltas None es)) ≤ longest → AreEvents begun None (deltas None es) 0
all-are [] low right short = record { fits = omega arith; near = omega arith }
all-are (e ∷ es) low right short =
    let ds : List DeltaEvent = deltas None (e ∷ es) in
    let same : ds ≡ deltas (Some e.moment) (e ∷ es) = first-same e es in
    subst (λ t. AreEvents t None ds 0) (begun-is e.moment)
    (subst (λ z. AreEvents (time_at e.moment e.moment) None z 0) (sym same)
    (events-are (e ∷ es) e.moment e.moment None (omega arith) right.2 (first-right e es low right)
    (subst (λ z. length (events_bytes z) ≤ longest) same short)))

all-give : (es : List MomentEvent) (low : ℕ) → AreRight None low es →
    events_given begun (deltas None es) ≡ all_given es
all-give [] low right = refl
all-give (e ∷ es) low right =
    ap (λ t. events_given t (deltas None (e ∷ es))) (sym (begun-is e.moment))
    ∙ (ap (events_given (time_at e.moment e.moment)) (first-same e es)
    ∙ events-give (e ∷ es) e.moment e.moment (omega arith) (first-right e es low right))

-- the marks' file

recorded-right : (puts : List Put) → CanBeWritten puts → AreRight None 0 (recorded puts)
recorded-right puts c = right-from puts [] false 0 0 None (omega arith) (omega arith) refl c.rise c.valid c.near

track-short : (puts : List Put) → CanBeWritten puts → length (written_track puts) ≤ longest
track-short puts c =
    let short : nat_lt longest (length (written_track puts)) ≡ false = c.short in
    grind (arith, nat_tests, short)

written-file : (puts : List Put) → CanBeWritten puts → IsMidiFile (plain_file 1000 (written_events puts) 0)
written-file puts c =
    let ds : List DeltaEvent = deltas None (recorded puts) in
    let short : length (written_track puts) ≤ longest = track-short puts c in
    let len : length (written_track puts)
    ≡ length (events_bytes (a_second ∷ ds)) + length (delta_bytes (end_event 0)) =
    length-append (events_bytes (a_second ∷ ds)) (delta_bytes (end_event 0)) in
    let first : length (events_bytes (a_second ∷ ds)) ≡ length (quantity a_second.delta)
    + length (event_bytes a_second.event) + length (events_bytes ds) = length-first a_second ds in
    record {
      some = omega arith;
      ticks = omega arith;
      header_fits = omega arith;
      others_are = tt;
      events_are = (
        record { fits = omega arith; near = omega arith },
        (omega arith, refl, λ _. (refl, refl)),
        all-are (recorded puts) 0 (recorded-right puts c) (omega (arith, short, len, first)),
      );
      short = omega (arith, short);
    }

pub written-read : (puts : List Put) (more : List ℕ) → CanBeWritten puts →
    smf (smf_written puts ++ more) ≡ record { given = written_given puts; fault = None }
written-read puts more c =
    file-read (plain_file 1000 (written_events puts) 0) more (written-file puts c)
    ∙ ap (λ z. record { given = z; fault = None }) (all-give (recorded puts) 0 (recorded-right puts c))

pub written-ended : (puts : List Put) (more : List ℕ) → CanBeWritten puts →
    smf_ended (smf_written puts ++ more) ≡ true
written-ended puts more c = file-ended (plain_file 1000 (written_events puts) 0) more (written-file puts c)
