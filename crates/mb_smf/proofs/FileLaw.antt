-- A file of events is read as what they give.
use Rattle.std.proofs.Common.{◌≡◌, ℕ, ◌+◌, ◌-◌, ◌^◌, ◌<◌, ◌≤◌, ◌==◌, Bool, true, false, nat_lt}
use Rattle.std.proofs.Common.{if◌then◌else◌, List, [], ◌∷◌, ◌++◌, flat_map, length, Option, Some, None, refl, sym, ◌∙◌}
use Rattle.std.proofs.Common.{ap, subst}
use Rattle.std.proofs.Common.{arith, append_assoc, append-nil, length-append}
use Rattle.std.specs.List.{list_all}
use Rattle.std.proofs.lemmas.Bool.Decides.{nat_tests}
use Rattle.mb_frames.specs.Gathered.{TimedByte}
use Rattle.mb_frames.specs.Numbers.{number, spelled}
use Rattle.mb_smf.specs.TrackTime.{TrackTime, ticks_later, track_moment}
use Rattle.mb_smf.specs.declared.event_kind.EventKind.{EventKind}
use Rattle.mb_smf.specs.declared.event_kind.EventKind.TheVariants as kind
use Rattle.mb_smf.specs.declared.file_place.FilePlace.TheVariants as at
use Rattle.mb_smf.specs.declared.file_state.FileState.{FileState}
use Rattle.mb_smf.specs.FileStep.{goes}
use Rattle.mb_smf.specs.TrackSteps.{meta_kind}
use Rattle.mb_smf.specs.Smf.{behind_given, file_behind, fresh_file, given_at, is_ended, smf}
use Rattle.mb_smf.specs.Smf.{smf_ended, smf_from}
use Rattle.mb_smf.specs.SmfEvents.{track_chunk, track_type}
use Rattle.mb_smf.specs.SmfEvents.{AreEvents, ChannelEvent, DeltaEvent, EscapeEvent, IsEvent, IsMidiFile}
use Rattle.mb_smf.specs.SmfEvents.{IsTempo, MetaEvent, RunningEvent, SysexEvent, TrackEvent, behind_length}
use Rattle.mb_smf.specs.SmfEvents.{delta_bytes, end_event, event_bytes, event_given, events_bytes, events_given}
use Rattle.mb_smf.specs.SmfEvents.{MidiFile, chunk_bytes, first_time, header_chunk, midi_file, quantity, running_behind}
use Rattle.mb_smf.specs.SmfEvents.{tempo_behind}
use Rattle.mb_smf.specs.SmfEvents.{time_behind, track}
use Rattle.mb_smf.proofs.PassLemmas.{Passes, passes-as, passes-both, passes-step, state_at}
use Rattle.mb_smf.proofs.TakesLemmas.{file-append}
use Rattle.mb_smf.proofs.QuantityLemmas.{by_size, chunk_at}
use Rattle.mb_smf.proofs.EventLemmas.{and-first, and-second, channel-read, delta-read, passes-at, running-read}
use Rattle.mb_smf.proofs.HeaderLemmas.{ChunkRead, chunk_begins, header-read, others-read, track-head}
use Rattle.mb_smf.proofs.LengthLemmas.{LengthRead, PlainEscape, PlainSysex, carried-read, escape-first, meta-first}
use Rattle.mb_smf.proofs.LengthLemmas.{skipped-read, sysex-first, tempo-read}

-- one event

abbrev time_after : TrackTime → TrackEvent → TrackTime
time_after t v = record { division = t.division; tempo = tempo_behind t.tempo v; sum = t.sum }

record EventRead (v : TrackEvent) (o l k e : ℕ) (r : Option ℕ) (t : TrackTime) : Type 0 where
  pub event : ℕ
  pub passes : Passes (chunk_at o l k at.First 0 e r t) (event_bytes v) (given_at (track_moment t) (event_given v))
      (chunk_at o l (k + length (event_bytes v)) (at.Delta 0) 0 event (running_behind v) (time_after t v))

byte-fits : (b : ℕ) → nat_lt b 256 ≡ true → b < 256
byte-fits b h = grind (arith, nat_tests)

-- FF 51
tempo-event : (type : ℕ) → (type == 0x51) ≡ true → (bytes : List ℕ) (o l k e : ℕ) (r : Option ℕ) (t : TrackTime) →
    IsTempo bytes → k + length (0xff ∷ type ∷ behind_length bytes) < l →
    EventRead (MetaEvent type bytes) o l k e r t
tempo-event type is (a ∷ b ∷ c ∷ []) o l k e r t fits room =
    let kind_is : meta_kind type ≡ kind.Tempo =
    ap (λ (q : Bool). if q then kind.Tempo else (if type == 0x2f then kind.End else kind.Other)) is in
    let bytes : List ℕ = a ∷ b ∷ c ∷ [] in
    let one : a < 256 = byte-fits a (and-first (nat_lt a 256) (list_all (λ x. nat_lt x 256) (b ∷ c ∷ [])) fits.1) in
    let others : list_all (λ x. nat_lt x 256) (b ∷ c ∷ []) ≡ true =
    and-second (nat_lt a 256) (list_all (λ x. nat_lt x 256) (b ∷ c ∷ [])) fits.1 in
    let two : b < 256 = byte-fits b (and-first (nat_lt b 256) (list_all (λ x. nat_lt x 256) (c ∷ [])) others) in
    let three : c < 256 =
    byte-fits c (and-first (nat_lt c 256) true (and-second (nat_lt b 256) (list_all (λ x. nat_lt x 256) (c ∷ []))
    others)) in
    record {
      event = 0;
      passes =
          subst (λ z. Passes (chunk_at o l k at.First 0 e r t) (0xff ∷ type ∷ behind_length bytes) []
          (chunk_at o l (k + length (0xff ∷ type ∷ behind_length bytes)) (at.Delta 0) 0 0 None
          (record { division = t.division; tempo = z; sum = t.sum })))
          (sym (ap (λ (q : Bool). if q then number bytes else t.tempo) is))
          (passes-at (chunk_at o l k at.First 0 e r t) (0xff ∷ type ∷ behind_length bytes) [] o l (k + 1 + 1 + 4)
          (k + length (0xff ∷ type ∷ behind_length bytes)) (at.Delta 0) 0 0 None
          (record { division = t.division; tempo = number bytes; sum = t.sum }) (omega arith)
          (passes-both (chunk_at o l k at.First 0 e r t) (chunk_at o l (k + 1 + 1) (at.Length 0 kind.Tempo) 0 e None t)
          (chunk_at o l (k + 1 + 1 + 4) (at.Delta 0) 0 0 None
          (record { division = t.division; tempo = number bytes; sum = t.sum })) (0xff ∷ type ∷ [])
          (3 ∷ a ∷ b ∷ c ∷ []) [] []
          (subst (λ (z : EventKind). Passes (chunk_at o l k at.First 0 e r t) (0xff ∷ type ∷ []) []
          (chunk_at o l (k + 1 + 1) (at.Length 0 z) 0 e None t)) kind_is
          (meta-first type o l k e r t (omega (arith, room))))
          (tempo-read a b c o l (k + 1 + 1) e None t one two three (omega (arith, room)))));
    }
tempo-event type is [] o l k e r t fits room = absurd (omega (arith, fits.0))
tempo-event type is (a ∷ []) o l k e r t fits room = absurd (omega (arith, fits.0))
tempo-event type is (a ∷ b ∷ []) o l k e r t fits room = absurd (omega (arith, fits.0))
tempo-event type is (a ∷ b ∷ c ∷ d ∷ ds) o l k e r t fits room = absurd (omega (arith, fits.0))

-- any other FF but the end
other-event : (type : ℕ) → (type == 0x51) ≡ false → (type == 0x2f) ≡ false → (bytes : List ℕ) (o l k e : ℕ)
    (r : Option ℕ) (t : TrackTime) → length bytes < 2 ^ 28 →
    k + length (0xff ∷ type ∷ behind_length bytes) < l → EventRead (MetaEvent type bytes) o l k e r t
other-event type no_tempo no_end bytes o l k e r t short room =
    let kind_is : meta_kind type ≡ kind.Other =
    ap (λ (q : Bool). if q then kind.Tempo else (if type == 0x2f then kind.End else kind.Other)) no_tempo
    ∙ ap (λ (q : Bool). if q then kind.End else kind.Other) no_end in
    let rest : LengthRead kind.Other bytes [] o l (k + 1 + 1) e None t =
    skipped-read bytes o l (k + 1 + 1) e None t short (omega (arith, room)) in
    record {
      event = rest.event;
      passes =
          subst (λ z. Passes (chunk_at o l k at.First 0 e r t) (0xff ∷ type ∷ behind_length bytes) []
          (chunk_at o l (k + length (0xff ∷ type ∷ behind_length bytes)) (at.Delta 0) 0 rest.event None
          (record { division = t.division; tempo = z; sum = t.sum })))
          (sym (ap (λ (q : Bool). if q then number bytes else t.tempo) no_tempo))
          (passes-at (chunk_at o l k at.First 0 e r t) (0xff ∷ type ∷ behind_length bytes) [] o l
          (k + 1 + 1 + length (behind_length bytes)) (k + length (0xff ∷ type ∷ behind_length bytes)) (at.Delta 0) 0
          rest.event None t (omega arith)
          (passes-both (chunk_at o l k at.First 0 e r t) (chunk_at o l (k + 1 + 1) (at.Length 0 kind.Other) 0 e None t)
          (chunk_at o l (k + 1 + 1 + length (behind_length bytes)) (at.Delta 0) 0 rest.event None t)
          (0xff ∷ type ∷ []) (behind_length bytes) [] []
          (subst (λ (z : EventKind). Passes (chunk_at o l k at.First 0 e r t) (0xff ∷ type ∷ []) []
          (chunk_at o l (k + 1 + 1) (at.Length 0 z) 0 e None t)) kind_is
          (meta-first type o l k e r t (omega (arith, room))))
          rest.passes));
    }

event-read : (v : TrackEvent) (o l k e : ℕ) (r : Option ℕ) (t : TrackTime) → IsEvent r v →
    k + length (event_bytes v) < l → EventRead v o l k e r t
event-read (ChannelEvent s a b) o l k e r t is room =
    record { event = e; passes = channel-read s a b o l k e r t is.0 is.1 room }
event-read (RunningEvent s a b) o l k e r t is room = record {
  event = e;
  passes = subst (λ z. Passes (chunk_at o l k at.First 0 e z t) (event_bytes (RunningEvent s a b))
      (given_at (track_moment t) (event_given (RunningEvent s a b)))
      (chunk_at o l (k + length (event_bytes (RunningEvent s a b))) (at.Delta 0) 0 e (Some s) t)) (sym is.0)
      (running-read s a b o l k e t is.1 is.2 room);
}
event-read (SysexEvent bytes) o l k e r t is room =
    let rest : LengthRead kind.Sysex bytes (0xf0 ∷ bytes) o l (k + 1) e None t =
    carried-read kind.Sysex PlainSysex refl bytes o l (k + 1) e None t is (omega (arith, room)) in
    record {
      event = rest.event;
      passes =
          passes-at (chunk_at o l k at.First 0 e r t) (0xf0 ∷ behind_length bytes)
          (given_at (track_moment t) (0xf0 ∷ bytes)) o l (k + 1 + length (behind_length bytes))
          (k + length (0xf0 ∷ behind_length bytes)) (at.Delta 0) 0 rest.event None t (omega arith)
          (passes-both (chunk_at o l k at.First 0 e r t) (chunk_at o l (k + 1) (at.Length 0 kind.Sysex) 0 e None t)
          (chunk_at o l (k + 1 + length (behind_length bytes)) (at.Delta 0) 0 rest.event None t) (0xf0 ∷ [])
          (behind_length bytes) [] (given_at (track_moment t) (0xf0 ∷ bytes))
          (sysex-first o l k e r t (omega (arith, room))) rest.passes);
    }
event-read (EscapeEvent bytes) o l k e r t is room =
    let rest : LengthRead kind.Escape bytes bytes o l (k + 1) e None t =
    carried-read kind.Escape PlainEscape refl bytes o l (k + 1) e None t is (omega (arith, room)) in
    record {
      event = rest.event;
      passes =
          passes-at (chunk_at o l k at.First 0 e r t) (0xf7 ∷ behind_length bytes)
          (given_at (track_moment t) bytes) o l (k + 1 + length (behind_length bytes))
          (k + length (0xf7 ∷ behind_length bytes)) (at.Delta 0) 0 rest.event None t (omega arith)
          (passes-both (chunk_at o l k at.First 0 e r t) (chunk_at o l (k + 1) (at.Length 0 kind.Escape) 0 e None t)
          (chunk_at o l (k + 1 + length (behind_length bytes)) (at.Delta 0) 0 rest.event None t) (0xf7 ∷ [])
          (behind_length bytes) [] (given_at (track_moment t) bytes)
          (escape-first o l k e r t (omega (arith, room))) rest.passes);
    }
event-read (MetaEvent type bytes) o l k e r t is room = by (type == 0x51) refl where
  by : (q : Bool) → (type == 0x51) ≡ q → EventRead (MetaEvent type bytes) o l k e r t
  by true tempo = tempo-event type tempo bytes o l k e r t (is.2 tempo) room
  by false tempo = other-event type tempo is.1 bytes o l k e r t is.0 room

-- the events of a track, up to its end

abbrev ended_at : (o l e : ℕ) → TrackTime → FileState
ended_at o l e t = state_at o at.Ended 0 l e None t

record TrackRead (ds : List DeltaEvent) (last o l k e : ℕ) (r : Option ℕ) (t : TrackTime) : Type 0 where
  pub offset : ℕ
  pub left : ℕ
  pub event : ℕ
  pub time : TrackTime
  pub passes : Passes (chunk_at o l k (at.Delta 0) 0 e r t) (track ds last) (events_given t ds)
      (ended_at offset left event time)

-- an event and what follows it
track-more : (d : DeltaEvent) (ds : List DeltaEvent) (last : ℕ) →
    track (d ∷ ds) last ≡ quantity d.delta ++ (event_bytes d.event ++ track ds last)
track-more d ds last =
    append_assoc (delta_bytes d) (events_bytes ds) (delta_bytes (end_event last))
    ∙ append_assoc (quantity d.delta) (event_bytes d.event) (track ds last)

length-more : (d : DeltaEvent) (ds : List DeltaEvent) (last : ℕ) → length (track (d ∷ ds) last)
    ≡ length (quantity d.delta) + (length (event_bytes d.event) + length (track ds last))
length-more d ds last =
    ap length (track-more d ds last)
    ∙ omega (
      arith,
      length-append (quantity d.delta) (event_bytes d.event ++ track ds last),
      length-append (event_bytes d.event) (track ds last),
    )

some-size : (n : ℕ) (one two three : Bool) → 1 ≤ length (by_size n one two three)
some-size n true two three = omega arith
some-size n false true three = omega arith
some-size n false false true = omega arith
some-size n false false false = omega arith

length-end : (ds : List DeltaEvent) (last : ℕ) → 4 ≤ length (track ds last)
length-end ds last =
    omega (
      arith,
      length-append (events_bytes ds) (delta_bytes (end_event last)),
      length-append (quantity last) (0xff ∷ 0x2f ∷ 0 ∷ []),
      some-size last (nat_lt last (2 ^ 7)) (nat_lt last (2 ^ 14)) (nat_lt last (2 ^ 21)),
    )

track-read : (ds : List DeltaEvent) (last o l k e : ℕ) (r : Option ℕ) (t : TrackTime) → AreEvents t r ds last →
    k + length (track ds last) ≤ l → TrackRead ds last o l k e r t
track-read [] last o l k e r t is room =
    let n : ℕ = length (quantity last) in
    let late : TrackTime = ticks_later t last in
    let len : length (track [] last) ≡ n + 3 = length-append (quantity last) (0xff ∷ 0x2f ∷ 0 ∷ []) in
    let j : ℕ = k + n + 1 + 1 in
    record {
      offset = o + j + 1;
      left = l - j;
      event = e;
      time = late;
      passes =
          passes-both (chunk_at o l k (at.Delta 0) 0 e r t) (chunk_at o l (k + n) at.First 0 e r late)
          (ended_at (o + j + 1) (l - j) e late) (quantity last) (0xff ∷ 0x2f ∷ 0 ∷ []) [] []
          (delta-read last o l k e r t is (omega (arith, room, len)))
          (passes-both (chunk_at o l (k + n) at.First 0 e r late) (chunk_at o l j (at.Length 0 kind.End) 0 e None late)
          (ended_at (o + j + 1) (l - j) e late) (0xff ∷ 0x2f ∷ []) (0 ∷ []) [] []
          (meta-first 0x2f o l (k + n) e r late (omega (arith, room, len)))
          (passes-step (chunk_at o l j (at.Length 0 kind.End) 0 e None late) 0
          (goes (ended_at (o + j + 1) (l - j) e late)) refl));
    }
track-read (d ∷ ds) last o l k e r t is room =
    let n : ℕ = length (quantity d.delta) in
    let m : ℕ = length (event_bytes d.event) in
    let len : length (track (d ∷ ds) last) ≡ n + (m + length (track ds last)) = length-more d ds last in
    let rest_len : 4 ≤ length (track ds last) = length-end ds last in
    let late : TrackTime = ticks_later t d.delta in
    let one : EventRead d.event o l (k + n) e r late =
    event-read d.event o l (k + n) e r late is.1 (omega (arith, room, len, rest_len)) in
    let others : TrackRead ds last o l (k + n + m) one.event (running_behind d.event) (time_behind t d) =
    track-read ds last o l (k + n + m) one.event (running_behind d.event) (time_behind t d) is.2
    (omega (arith, room, len)) in
    let end : FileState = ended_at others.offset others.left others.event others.time in
    record {
      offset = others.offset;
      left = others.left;
      event = others.event;
      time = others.time;
      passes =
          passes-as (chunk_at o l k (at.Delta 0) 0 e r t) end end
          (quantity d.delta ++ (event_bytes d.event ++ track ds last)) (track (d ∷ ds) last)
          (events_given t (d ∷ ds)) (events_given t (d ∷ ds)) (sym (track-more d ds last)) refl refl
          (passes-both (chunk_at o l k (at.Delta 0) 0 e r t) (chunk_at o l (k + n) at.First 0 e r late) end
          (quantity d.delta) (event_bytes d.event ++ track ds last) [] (events_given t (d ∷ ds))
          (delta-read d.delta o l k e r t is.0 (omega (arith, room, len, rest_len)))
          (passes-both (chunk_at o l (k + n) at.First 0 e r late)
          (chunk_at o l (k + n + m) (at.Delta 0) 0 one.event (running_behind d.event) (time_behind t d)) end
          (event_bytes d.event) (track ds last) (given_at (track_moment late) (event_given d.event))
          (events_given (time_behind t d) ds) one.passes others.passes));
    }

-- what stands behind the end gives nothing

behind-end : (o l e : ℕ) (t : TrackTime) (more : List ℕ) →
    smf_from (ended_at o l e t) more ≡ record { given = []; fault = None }
behind-end o l e t [] = refl
behind-end o l e t (b ∷ more) = behind-end (o + 1) l e t more

still-ended : (o l e : ℕ) (t : TrackTime) (more : List ℕ) →
    is_ended (file_behind (ended_at o l e t) more).place ≡ true
still-ended o l e t [] = refl
still-ended o l e t (b ∷ more) = still-ended (o + 1) l e t more

-- the whole

record FilePasses (f : MidiFile) : Type 0 where
  pub offset : ℕ
  pub left : ℕ
  pub event : ℕ
  pub time : TrackTime
  pub passes : Passes fresh_file (midi_file f) (events_given (first_time f.division) f.events)
      (ended_at offset left event time)

file-passes : (f : MidiFile) → IsMidiFile f → FilePasses f
file-passes f is =
    let t : TrackTime = first_time f.division in
    let bytes : List ℕ = track f.events f.last in
    let n : ℕ = length bytes in
    let some : 0 < n = omega (arith, length-end f.events f.last) in
    let header : ChunkRead fresh_file (header_chunk f.division f.header_more) (at.Name 0 true) 0 t =
    header-read f.division f.header_more is.some is.ticks is.header_fits in
    let others : ChunkRead (chunk_begins header.offset t) (flat_map chunk_bytes f.others) (at.Name 0 true) 0 t =
    others-read f.others header.offset t is.others_are in
    let o : ℕ = others.offset + 1 + 1 + 1 + 1 + 1 + 1 + 1 + 1 in
    let begun : FileState = state_at o (at.Delta 0) 0 n 0 None t in
    let head : Passes (chunk_begins others.offset t) (track_type ++ spelled 4 n) [] begun =
    track-head others.offset n t some is.short in
    let none : n - 0 ≡ n = omega arith in
    let same : o + 0 ≡ o = omega arith in
    let begins : chunk_at o n 0 (at.Delta 0) 0 0 None t ≡ begun =
    ap (λ z. state_at z (at.Delta 0) 0 (n - 0) 0 None t) same ∙ ap (λ z. state_at o (at.Delta 0) 0 z 0 None t) none in
    let read : TrackRead f.events f.last o n 0 0 None t =
    track-read f.events f.last o n 0 0 None t is.events_are (omega arith) in
    let end : FileState = ended_at read.offset read.left read.event read.time in
    let given : List TimedByte = events_given t f.events in
    record {
      offset = read.offset;
      left = read.left;
      event = read.event;
      time = read.time;
      passes =
          passes-both fresh_file (chunk_begins header.offset t) end (header_chunk f.division f.header_more)
          (flat_map chunk_bytes f.others ++ track_chunk bytes) [] given header.passes
          (passes-both (chunk_begins header.offset t) (chunk_begins others.offset t) end (flat_map chunk_bytes f.others)
          (track_chunk bytes) [] given others.passes
          (passes-both (chunk_begins others.offset t) begun end (track_type ++ spelled 4 n) bytes [] given head
          (subst (λ z. Passes z bytes given end) begins read.passes)));
    }

pub file-read : (f : MidiFile) (behind : List ℕ) → IsMidiFile f → smf (midi_file f ++ behind)
    ≡ record { given = events_given (first_time f.division) f.events; fault = None }
file-read f behind is =
    let p : FilePasses f = file-passes f is in
    let given : List TimedByte = events_given (first_time f.division) f.events in
    p.passes.reads behind
    ∙ (ap (behind_given given) (behind-end p.offset p.left p.event p.time behind)
    ∙ ap (λ z. record { given = z; fault = None }) (append-nil given))

pub file-ended : (f : MidiFile) (behind : List ℕ) → IsMidiFile f → smf_ended (midi_file f ++ behind) ≡ true
file-ended f behind is =
    let p : FilePasses f = file-passes f is in
    ap (λ (s : FileState). is_ended s.place) (file-append fresh_file (midi_file f) behind
    ∙ ap (λ s. file_behind s behind) p.passes.state)
    ∙ still-ended p.offset p.left p.event p.time behind
