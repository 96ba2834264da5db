-- A tape on its way into a file.
use Rattle.std.proofs.Common.{◌≡◌, ℕ, ◌≤◌, ◌+◌, Bool, true, false, List, [], ◌∷◌, ◌++◌, length, map, Option, refl, sym}
use Rattle.std.proofs.Common.{Some, None, ◌∙◌, ap, subst, arith, append_assoc, append-nil, length-append}
use Rattle.std.specs.Prelude.{Result, Ok, Err, IfErr}
use Rattle.std.proofs.lemmas.List.{map-append}
use Rattle.mb_message.specs.Front.{IsFront}
use Rattle.mb_message.specs.Signs.{ByteSign, Sign, signs_of_event, suits_sign}
use Rattle.mb_message.specs.declared.event.Ev.{Ev}
use Rattle.mb_stream.specs.Puts.{At, Put, puts_at, signs_in}
use Rattle.mb_stream.specs.Standing.{suited}
use Rattle.mb_stream.proofs.PutsLemmas.{signs_in-append}
use Rattle.mb_stream.proofs.StandingLemmas.{next}
use Rattle.mb_frames.specs.Tapes.{tape_fault}
use Rattle.mb_frames.specs.declared.tape.TapeFault.{TapeFault}
use Rattle.mb_smf.specs.TrackWriting.{FullBy, TrackWrites, TrackWriting, is_full}
use Rattle.mb_smf.specs.declared.writer.SmfFull.{SmfFull}
use Rattle.mb_carrier.specs.Port.{ReaderStands}
use Rattle.mb_carrier.proofs.PutLemmas.{puts_at-append}
use Rattle.mb_carrier.proofs.ReadingLemmas.{puts-front}
use Rattle.mb_track.specs.Track.{track_end, track_marks, track_marks_so_far}
use Rattle.mb_track.specs.TrackReading.{signs_told, step_signs}
use Rattle.mb_track.specs.TrackReading.{IfNoStep, TrackGoes, TrackStands, TrackTold, track_moment, track_of}
use Rattle.mb_track.specs.TrackReading.{track_offset, track_spec}
use Rattle.mb_track.specs.declared.track.TrackReader.{TrackReader}
use Rattle.mb_track.specs.declared.track.TrackStep.{TrackStep}
use Rattle.mb_track.proofs.StandLemmas.{goes-by}
use Rattle.mb_track.proofs.FrontLemmas.{all-suit, told-front, told-suits}
use Rattle.mb_tapes.specs.Recorded.{FirstLeftOut}
use Rattle.mb_tapes.specs.Recording.{MayFollow, RecordedOn, RecordingStands, recording_spec}
use Rattle.mb_tapes.specs.declared.recording.Recording.{Recording}

-- marks that may follow

pub follows-suits : (w : TrackWriting) (m : ℕ) (s : Sign) (more : List Put) → MayFollow w (At m s ∷ more) →
    suits_sign w.open_now s ≡ true
follows-suits w m s more f =
    subst (λ (o : Bool). suits_sign o s ≡ true) (sym (f.writes).open_is)
    (next (signs_in f.puts) s (signs_in more) (ap suited (sym (signs_in-append f.puts (At m s ∷ more))) ∙ f.suit))

pub follows-front : (w : TrackWriting) (xs ys : List Put) → MayFollow w (xs ++ ys) → MayFollow w xs
follows-front w xs ys f = record {
  puts = f.puts;
  writes = f.writes;
  suit =
      puts-front (f.puts ++ xs) ys (ap (λ ps. suited (signs_in ps)) (append_assoc f.puts xs ys) ∙ f.suit);
}

pub follows-then : (was now : TrackWriting) (xs ys : List Put) →
    ((puts : List Put) → TrackWrites was puts → TrackWrites now (puts ++ xs)) → MayFollow was (xs ++ ys) →
    MayFollow now ys
follows-then was now xs ys writes f = record {
  puts = f.puts ++ xs;
  writes = writes f.puts f.writes;
  suit = ap (λ ps. suited (signs_in ps)) (append_assoc f.puts xs ys) ∙ f.suit;
}

-- what is left out

pub left-out-more : (marks more : List Put) (full : SmfFull) → FirstLeftOut marks full →
    FirstLeftOut (marks ++ more) full
left-out-more marks more full f =
    let front = f.before ++ At f.moment f.mark ∷ [] in
    record {
      before = f.before;
      moment = f.moment;
      mark = f.mark;
      front = (
        (f.front).0 ++ more,
        ap (λ ps. ps ++ more) (f.front).1 ∙ append_assoc front (f.front).0 more,
      );
      can = f.can;
      why = f.why;
    }

pub left-out-of : (marks whole : List Put) (full : SmfFull) → IsFront marks whole → FirstLeftOut marks full →
    FirstLeftOut whole full
left-out-of marks whole full front f =
    subst (λ (ps : List Put). FirstLeftOut ps full) (sym front.1) (left-out-more marks front.0 full f)

pub refused-mark : (r : Result (Unit {0}) SmfFull) (w : TrackWriting) (m : ℕ) (s : Sign) →
    ((puts : List Put) → TrackWrites w puts → FullBy puts m s r) →
    IfErr r (λ full. (puts : List Put) → TrackWrites w puts → FirstLeftOut (puts ++ At m s ∷ []) full)
refused-mark (Ok done) w m s cause = tt
refused-mark (Err full) w m s cause = λ puts h. record {
  before = puts;
  moment = m;
  mark = s;
  front = ([], sym (append-nil (puts ++ At m s ∷ [])));
  can = h.can;
  why = cause puts h;
}

-- SysEx data, byte by byte

abbrev pub run_puts : (m : ℕ) → List ℕ → List Put
run_puts m bytes = puts_at m (map ByteSign bytes)

run-append : (m : ℕ) (xs ys : List ℕ) → run_puts m (xs ++ ys) ≡ run_puts m xs ++ run_puts m ys
run-append m xs ys =
    ap (puts_at m) (map-append ByteSign xs ys) ∙ puts_at-append m (map ByteSign xs) (map ByteSign ys)

pub record RunPut (was now : TrackWriting) (m : ℕ) (bytes rest : List ℕ) : Type 0 where
  pub taken : List ℕ
  pub split : bytes ≡ taken ++ rest
  pub writes : (puts : List Put) → TrackWrites was puts → TrackWrites now (puts ++ run_puts m taken)

pub run-put-start : (w : TrackWriting) (m : ℕ) (bytes : List ℕ) → RunPut w w m bytes bytes
run-put-start w m bytes = record {
  taken = [];
  split = refl;
  writes = λ puts h. subst (TrackWrites w) (sym (append-nil puts)) h;
}

pub run-put-step : (was mid now : TrackWriting) (m b : ℕ) (bytes rest others : List ℕ) → rest ≡ b ∷ others →
    RunPut was mid m bytes rest →
    ((puts : List Put) → TrackWrites mid puts → TrackWrites now (puts ++ At m (ByteSign b) ∷ [])) →
    RunPut was now m bytes others
run-put-step was mid now m b bytes rest others is r writes = record {
  taken = r.taken ++ b ∷ [];
  split = r.split ∙ (ap (λ xs. r.taken ++ xs) is ∙ sym (append_assoc r.taken (b ∷ []) others));
  writes = λ puts h.
      subst (TrackWrites now)
      (append_assoc puts (run_puts m r.taken) (At m (ByteSign b) ∷ [])
      ∙ ap (λ ps. puts ++ ps) (sym (run-append m r.taken (b ∷ []))))
      (writes (puts ++ run_puts m r.taken) (r.writes puts h));
}

pub run-put-follows : (was mid : TrackWriting) (m b : ℕ) (bytes rest others : List ℕ) → rest ≡ b ∷ others →
    RunPut was mid m bytes rest → MayFollow was (run_puts m bytes) → MayFollow mid (At m (ByteSign b) ∷ [])
run-put-follows was mid m b bytes rest others is r f =
    follows-front mid (At m (ByteSign b) ∷ []) (run_puts m others)
    (follows-then was mid (run_puts m r.taken) (run_puts m (b ∷ others)) r.writes
    (subst (MayFollow was)
    (ap (run_puts m) (r.split ∙ ap (λ xs. r.taken ++ xs) is) ∙ run-append m r.taken (b ∷ others)) f))

pub run-put-refused : (was mid : TrackWriting) (m b : ℕ) (bytes rest others : List ℕ) (full : SmfFull) →
    rest ≡ b ∷ others → RunPut was mid m bytes rest →
    ((puts : List Put) → TrackWrites mid puts → FirstLeftOut (puts ++ At m (ByteSign b) ∷ []) full) →
    (puts : List Put) → TrackWrites was puts → FirstLeftOut (puts ++ run_puts m bytes) full
run-put-refused was mid m b bytes rest others full is r refused puts h =
    let before = puts ++ run_puts m r.taken in
    let one = At m (ByteSign b) ∷ [] in
    let all : puts ++ run_puts m bytes ≡ (before ++ one) ++ run_puts m others
    = ap (λ ps. puts ++ ps)
    (ap (run_puts m) (r.split ∙ ap (λ xs. r.taken ++ xs) is) ∙ run-append m r.taken (b ∷ others))
    ∙ (sym (append_assoc puts (run_puts m r.taken) (run_puts m (b ∷ others)))
    ∙ sym (append_assoc before one (run_puts m others))) in
    left-out-of (before ++ one) (puts ++ run_puts m bytes) full (run_puts m others, all)
    (refused before (r.writes puts h))

pub run-put-over : (was now : TrackWriting) (m : ℕ) (bytes rest : List ℕ) → rest ≡ [] → RunPut was now m bytes rest →
    (puts : List Put) → TrackWrites was puts → TrackWrites now (puts ++ run_puts m bytes)
run-put-over was now m bytes rest none r puts h =
    subst (λ (xs : List ℕ). TrackWrites now (puts ++ run_puts m xs))
    (sym (r.split ∙ (ap (λ xs. r.taken ++ xs) none ∙ append-nil r.taken))) (r.writes puts h)

-- nothing was fed

pub new-stands : (r : Recording) → TrackTold r.track [] → track_of r.track ≡ 0 → track_offset r.track ≡ 0 →
    TrackWrites r.file [] → is_full r.file ≡ false → r.file.moment ≡ 0 → RecordingStands r []
new-stands r told track offset writes short moment = record {
  told = told;
  of_track = track;
  offset = omega (arith, offset);
  writes = writes;
  short = short;
  order = omega (arith, moment);
}

-- a piece of the tape

-- what was told of the piece went to the file
pub record FedSofar (track : TrackReader) (file : TrackWriting) (piece rest bytes : List ℕ) : Type 0 where
  pub taken : List ℕ
  pub told : List Put
  pub split : piece ≡ taken ++ rest
  pub stands : TrackStands track (bytes ++ taken) rest told
  pub writes : TrackWrites file told

pub record Feeding (was : Recording) (track : TrackReader) (file : TrackWriting) (piece rest : List ℕ) : Type 0 where
  pub spec : track_spec track ≡ recording_spec was
  pub of_track : track_of track ≡ track_of was.track
  pub offset : track_offset track + length rest ≤ track_offset was.track + length piece
  pub short : is_full file ≡ false
  pub order : file.moment ≤ track_moment track
  pub sofar : (bytes : List ℕ) → RecordingStands was bytes → FedSofar track file piece rest bytes

pub feeding-start : (was : Recording) (piece bytes : List ℕ) → RecordingStands was bytes →
    Feeding was was.track was.file piece piece
feeding-start was piece bytes here = record {
  spec = refl;
  of_track = refl;
  offset = omega arith;
  short = here.short;
  order = here.order;
  sofar = λ bytes st.
      let s = recording_spec was in
      record {
        taken = [];
        told = track_marks_so_far s 0 bytes;
        split = refl;
        stands =
            subst (λ (xs : List ℕ). TrackStands was.track xs piece (track_marks_so_far s 0 bytes))
            (sym (append-nil bytes))
            (subst (λ (t : ℕ). TrackStands was.track bytes piece (track_marks_so_far s t bytes)) st.of_track
            ((st.told).stands piece));
        writes = st.writes;
      };
}

pub feeding-order : (was : Recording) (track now : TrackReader) (file : TrackWriting) (piece rest bytes : List ℕ) →
    RecordingStands was bytes → Feeding was track file piece rest →
    ((taken : List ℕ) (told : List Put) → TrackStands track taken rest told → track_moment track ≤ track_moment now) →
    file.moment ≤ track_moment now
feeding-order was track now file piece rest bytes st f rises =
    let t = f.sofar bytes st in
    omega (arith, f.order, rises (bytes ++ t.taken) t.told t.stands)

-- an event
pub feeding-heard : (was : Recording) (track now : TrackReader) (file file_now : TrackWriting)
    (piece rest left : List ℕ) (e : Ev) → Feeding was track file piece rest → track_spec now ≡ track_spec track →
    track_of now ≡ track_of track → track_offset now + length left ≤ track_offset track + length rest →
    TrackGoes track now rest left (signs_of_event e) →
    ((puts : List Put) → TrackWrites file puts →
    TrackWrites file_now (puts ++ puts_at (track_moment now) (signs_of_event e))) → is_full file_now ≡ false →
    file_now.moment ≤ track_moment now → Feeding was now file_now piece left
feeding-heard was track now file file_now piece rest left e f spec of end goes writes short order =
    let more = puts_at (track_moment now) (signs_of_event e) in
    record {
      spec = spec ∙ f.spec;
      of_track = of ∙ f.of_track;
      offset = omega (arith, end, f.offset);
      short = short;
      order = order;
      sofar = λ bytes st.
          let t = f.sofar bytes st in
          let gone = goes (bytes ++ t.taken) t.told t.stands in
          record {
            taken = t.taken ++ gone.bytes;
            told = t.told ++ more;
            split = t.split ∙ (ap (λ xs. t.taken ++ xs) gone.front ∙ sym (append_assoc t.taken gone.bytes left));
            stands =
                subst (λ (xs : List ℕ). TrackStands now xs left (t.told ++ more)) (append_assoc bytes t.taken gone.bytes)
                gone.stands;
            writes = writes t.told t.writes;
          };
    }

-- a beginning or an end of a record
pub feeding-passed : (was : Recording) (track now : TrackReader) (file : TrackWriting)
    (piece rest left bytes : List ℕ) → RecordingStands was bytes → Feeding was track file piece rest → track_spec now ≡ track_spec track →
    track_of now ≡ track_of track → track_offset now + length left ≤ track_offset track + length rest →
    ((taken : List ℕ) (told : List Put) → TrackStands track taken rest told → track_moment track ≤ track_moment now) →
    TrackGoes track now rest left [] → Feeding was now file piece left
feeding-passed was track now file piece rest left here st f spec of end rises goes = record {
  spec = spec ∙ f.spec;
  of_track = of ∙ f.of_track;
  offset = omega (arith, end, f.offset);
  short = f.short;
  order = feeding-order was track now file piece rest here st f rises;
  sofar = λ bytes st.
      let t = f.sofar bytes st in
      let gone = goes (bytes ++ t.taken) t.told t.stands in
      record {
        taken = t.taken ++ gone.bytes;
        told = t.told;
        split = t.split ∙ (ap (λ xs. t.taken ++ xs) gone.front ∙ sym (append_assoc t.taken gone.bytes left));
        stands =
            subst (λ (ps : List Put). TrackStands now (bytes ++ (t.taken ++ gone.bytes)) left ps) (append-nil t.told)
            (subst (λ (xs : List ℕ). TrackStands now xs left (t.told ++ [])) (append_assoc bytes t.taken gone.bytes)
            gone.stands);
        writes = t.writes;
      };
}

front-of : (r : TrackReader) (taken next : List ℕ) (told : List Put) → TrackStands r taken next told →
    IsFront told (track_marks_so_far (track_spec r) r.track (taken ++ next))
front-of r taken next told st =
    told-front (track_spec r) (ReaderStands r.reader) r.tape r.track r.own r.moment taken next told st

-- the event suits
pub feeding-follows : (was : Recording) (track now : TrackReader) (file : TrackWriting) (piece rest left bytes : List ℕ)
    (e : Ev) → RecordingStands was bytes → Feeding was track file piece rest →
    TrackGoes track now rest left (signs_of_event e) →
    MayFollow file (puts_at (track_moment now) (signs_of_event e))
feeding-follows was track now file piece rest left bytes e st f goes =
    let t = f.sofar bytes st in
    let gone = goes (bytes ++ t.taken) t.told t.stands in
    let more = puts_at (track_moment now) (signs_of_event e) in
    record {
      puts = t.told;
      writes = t.writes;
      suit =
          told-suits (track_spec now) now.track (((bytes ++ t.taken) ++ gone.bytes) ++ left) (t.told ++ more)
          (front-of now ((bytes ++ t.taken) ++ gone.bytes) left (t.told ++ more) gone.stands);
    }

-- the file can't have an event
pub feeding-full : (was : Recording) (track now : TrackReader) (file : TrackWriting) (piece rest left : List ℕ) (e : Ev)
    (full : SmfFull) → Feeding was track file piece rest → track_spec now ≡ track_spec track →
    track_of now ≡ track_of track → TrackGoes track now rest left (signs_of_event e) →
    ((puts : List Put) → TrackWrites file puts →
    FirstLeftOut (puts ++ puts_at (track_moment now) (signs_of_event e)) full) →
    (bytes : List ℕ) → RecordingStands was bytes →
    FirstLeftOut (track_marks_so_far (recording_spec was) 0 (bytes ++ piece)) full
feeding-full was track now file piece rest left e full f spec of goes refused bytes st =
    let t = f.sofar bytes st in
    let s = recording_spec was in
    let more = puts_at (track_moment now) (signs_of_event e) in
    let gone = goes (bytes ++ t.taken) t.told t.stands in
    let whole : ((bytes ++ t.taken) ++ gone.bytes) ++ left ≡ bytes ++ piece
    = append_assoc (bytes ++ t.taken) gone.bytes left ∙ (ap (λ xs. (bytes ++ t.taken) ++ xs) (sym gone.front)
    ∙ (append_assoc bytes t.taken rest ∙ ap (λ xs. bytes ++ xs) (sym t.split))) in
    let marks : track_marks_so_far (track_spec now) now.track (((bytes ++ t.taken) ++ gone.bytes) ++ left) ≡
    track_marks_so_far s 0 (bytes ++ piece)
    = ap (track_marks_so_far (track_spec now) now.track) whole
    ∙ (ap (λ z. track_marks_so_far z now.track (bytes ++ piece)) (spec ∙ f.spec)
    ∙ ap (λ n. track_marks_so_far s n (bytes ++ piece)) (of ∙ (f.of_track ∙ st.of_track))) in
    left-out-of (t.told ++ more) (track_marks_so_far s 0 (bytes ++ piece)) full
    (subst (IsFront (t.told ++ more)) marks
    (front-of now ((bytes ++ t.taken) ++ gone.bytes) left (t.told ++ more) gone.stands)) (refused t.told t.writes)

-- where nothing more is told of the piece

abbrev pub OverSays : (track now : TrackReader) (rest : List ℕ) (fault : Option TapeFault) → Type 0
OverSays track now rest fault =
    (taken : List ℕ) (told : List Put) → TrackStands track taken rest told →
    TrackTold now (taken ++ rest)
    × (told ≡ track_marks_so_far (track_spec track) (track_of track) (taken ++ rest))
    × (tape_fault (taken ++ rest) ≡ fault)

pub record FedOver (now : Recording) (piece : List ℕ) (fault : Option TapeFault) (bytes : List ℕ) : Type 0 where
  pub stands : RecordingStands now (bytes ++ piece)
  pub fault_is : tape_fault (bytes ++ piece) ≡ fault

feeding-over : (was : Recording) (track now : TrackReader) (file : TrackWriting) (piece rest left : List ℕ)
    (fault : Option TapeFault) → Feeding was track file piece rest → track_spec now ≡ track_spec track →
    track_of now ≡ track_of track → track_offset now + length left ≤ track_offset track + length rest →
    ((taken : List ℕ) (told : List Put) → TrackStands track taken rest told → track_moment track ≤ track_moment now) →
    OverSays track now rest fault → (bytes : List ℕ) → RecordingStands was bytes →
    FedOver (record { track = now; file = file }) piece fault bytes
feeding-over was track now file piece rest left fault f spec of end rises over bytes st =
    let t = f.sofar bytes st in
    let s = recording_spec was in
    let o = over (bytes ++ t.taken) t.told t.stands in
    let whole : (bytes ++ t.taken) ++ rest ≡ bytes ++ piece
    = append_assoc bytes t.taken rest ∙ ap (λ xs. bytes ++ xs) (sym t.split) in
    let marks : t.told ≡ track_marks_so_far s 0 (bytes ++ piece)
    = o.1 ∙ (ap (track_marks_so_far (track_spec track) (track_of track)) whole
    ∙ (ap (λ z. track_marks_so_far z (track_of track) (bytes ++ piece)) f.spec
    ∙ ap (λ n. track_marks_so_far s n (bytes ++ piece)) (f.of_track ∙ st.of_track))) in
    let now_marks : t.told ≡ track_marks_so_far (track_spec now) 0 (bytes ++ piece)
    = marks ∙ ap (λ z. track_marks_so_far z 0 (bytes ++ piece)) (sym (spec ∙ f.spec)) in
    record {
      stands = record {
        told = subst (TrackTold now) whole o.0;
        of_track = of ∙ (f.of_track ∙ st.of_track);
        offset = omega (arith, end, f.offset, st.offset, length-append bytes piece);
        writes = subst (TrackWrites file) now_marks t.writes;
        short = f.short;
        order = feeding-order was track now file piece rest bytes st f rises;
      };
      fault_is = ap tape_fault (sym whole) ∙ o.2;
    }

pub feeding-end : (was : Recording) (track now : TrackReader) (file : TrackWriting) (piece rest left : List ℕ)
    (fault : Option TapeFault) → Feeding was track file piece rest → track_spec now ≡ track_spec track →
    track_of now ≡ track_of track → track_offset now + length left ≤ track_offset track + length rest →
    ((taken : List ℕ) (told : List Put) → TrackStands track taken rest told → track_moment track ≤ track_moment now) →
    OverSays track now rest fault →
    RecordedOn (RecordingStands was) (RecordingStands (record { track = now; file = file })) piece fault
feeding-end was track now file piece rest left fault f spec of end rises over = record {
  stands = λ bytes st.
      (feeding-over was track now file piece rest left fault f spec of end rises over bytes st).stands;
  fault_is = λ bytes st.
      (feeding-over was track now file piece rest left fault f spec of end rises over bytes st).fault_is;
}

pub told-goes : (track now : TrackReader) (rest left : List ℕ) {r : Result (Option TrackStep) TapeFault}
    {o : Option TrackStep} {t told : TrackStep} → r ≡ Ok o → o ≡ Some t → t ≡ told →
    TrackGoes track now rest left (step_signs r) → TrackGoes track now rest left (signs_told (Some told))
told-goes track now rest left {r} {o} {t} {told} e f g goes =
    goes-by track now rest left (step_signs r) (signs_told (Some told)) (ap step_signs (e ∙ ap Ok (f ∙ ap Some g))) goes

pub over-of : (o : Option TrackStep) (P : Type 0) → o ≡ None → IfNoStep (Ok o) P → P
over-of None P e p = p
over-of (Some step) P e p = cc

-- the end of the tape

pub end-follows : (r : Recording) (bytes : List ℕ) (e : Ev) (m : ℕ) → RecordingStands r bytes →
    puts_at m (signs_of_event e) ≡ track_end (track_spec r.track) (track_of r.track) bytes →
    MayFollow r.file (puts_at m (signs_of_event e))
end-follows r bytes e m st is_end =
    let s = track_spec r.track in
    let so_far = track_marks_so_far s 0 bytes in
    record {
      puts = so_far;
      writes = st.writes;
      suit =
          ap (λ ps. suited (signs_in (so_far ++ ps))) (is_end ∙ ap (λ t. track_end s t bytes) st.of_track)
          ∙ all-suit s 0 bytes;
    }

pub end-writes : (r : Recording) (file : TrackWriting) (more : List Put) (bytes : List ℕ) → RecordingStands r bytes →
    more ≡ track_end (track_spec r.track) (track_of r.track) bytes →
    ((puts : List Put) → TrackWrites r.file puts → TrackWrites file (puts ++ more)) →
    TrackWrites file (track_marks (recording_spec r) 0 bytes)
end-writes r file more bytes st is_end writes =
    let s = track_spec r.track in
    subst (λ (ps : List Put). TrackWrites file (track_marks_so_far s 0 bytes ++ ps))
    (is_end ∙ ap (λ t. track_end s t bytes) st.of_track) (writes (track_marks_so_far s 0 bytes) st.writes)

pub end-full : (r : Recording) (full : SmfFull) (more : List Put) (bytes : List ℕ) → RecordingStands r bytes →
    more ≡ track_end (track_spec r.track) (track_of r.track) bytes →
    ((puts : List Put) → TrackWrites r.file puts → FirstLeftOut (puts ++ more) full) →
    FirstLeftOut (track_marks (recording_spec r) 0 bytes) full
end-full r full more bytes st is_end refused =
    let s = track_spec r.track in
    subst (λ (ps : List Put). FirstLeftOut (track_marks_so_far s 0 bytes ++ ps) full)
    (is_end ∙ ap (λ t. track_end s t bytes) st.of_track) (refused (track_marks_so_far s 0 bytes) st.writes)

pub partial-law : (r : Recording) (bytes : List ℕ) (P : ℕ → Type 0) → RecordingStands r bytes → P (track_of r.track) →
    P 0
partial-law r bytes P st p = subst P st.of_track p
