-- A guard beside a byte line's tape.
use Rattle.std.proofs.Common.{◌≡◌, ℕ, ◌≤◌, ◌+◌, Bool, true, false, List, [], ◌∷◌, ◌++◌, map, length, refl, sym, ◌∙◌}
use Rattle.std.proofs.Common.{ap, subst, arith, append_assoc, append-nil, Option, Some, None}
use Rattle.std.specs.Prelude.{if◌then◌else◌, Result, Ok, Err, OnOk, OnErr}
use Rattle.std.proofs.lemmas.Bool.{false≢true}
use Rattle.mb_message.specs.Front.{IsFront, IsPart}
use Rattle.mb_message.specs.Signs.{AbortSign, ByteSign, EndSign, OpenSign, RtSign, Sign, ShortSign}
use Rattle.mb_message.specs.Signs.{signs_of_event, suits_event}
use Rattle.mb_message.specs.declared.event.Ev.TheVariants as event
use Rattle.mb_message.specs.declared.short.Short.{Short}
use Rattle.std.proofs.lemmas.List.{map-append}
use Rattle.mb_carrier.proofs.PutLemmas.{puts_at-append}
use Rattle.mb_message.specs.declared.event.Ev.{Ev}
use Rattle.mb_stream.specs.Denotation.{Broken, Meant, Message, Syx, denotation}
use Rattle.mb_stream.specs.Puts.{At, Put, puts_at, signs_in}
use Rattle.mb_stream.specs.Standing.{is_open, suited}
use Rattle.mb_stream.proofs.PutsLemmas.{signs_in-append, signs_in-at}
use Rattle.mb_stream.proofs.StandingLemmas.{apart}
use Rattle.mb_frames.specs.Tapes.{magic}
use Rattle.mb_frames.specs.Gathering.{after_magic, written_piece}
use Rattle.mb_guard.specs.Guard.{Stands}
use Rattle.mb_guard.specs.Sounding.{Voice, off_marks, off_of, off_sign, sounding}
use Rattle.mb_guard.proofs.Sounded.{Stands-after}
use Rattle.mb_outside.specs.TakingLaws.{part-within, part-behind}
use Rattle.mb_held.specs.Held.{Holds}
use Rattle.mb_held.proofs.HeldLemmas.{Fronted, given-then, holds-then, refused-then}
use Rattle.mb_carrier.specs.declared.spec.Spec.{Spec}
use Rattle.mb_track.specs.Track.{last_record_moment, track_end, track_marks, track_marks_so_far, track_records}
use Rattle.mb_track.specs.TrackReading.{TrackGone, TrackStands, TrackTold, event_signs, track_moment, track_of}
use Rattle.mb_track.specs.TrackReading.{track_offset, track_spec}
use Rattle.mb_track.proofs.EndLemmas.{all-closed}
use Rattle.mb_track.proofs.FrontLemmas.{all-suit}
use Rattle.mb_rewrite.specs.LineTape.{line_tape}
use Rattle.mb_rewrite.specs.Line.{LineHalted, LineStands, LineWrote}
use Rattle.mb_rewrite.specs.Guarded.{guarded, guarded_tape}
use Rattle.mb_rewrite.specs.Guarding.{EndHalted, EndHeard, GuardHasTold, GuardingStands, off_puts}
use Rattle.mb_rewrite.specs.Guarding.{guarding_spec}
use Rattle.mb_rewrite.specs.declared.guarding.Guarding.{Guarding}
use Rattle.mb_rewrite.specs.declared.line.LineTape.{LineTape}
use Rattle.mb_rewrite.proofs.FeedLemmas.{Before, Suiting}
use Rattle.mb_rewrite.proofs.LineLemmas.{begun-stands, halted-then, halted-within, wrote-none, wrote-then}

-- data of a SysEx turns no note
pub sounds-run : (now : List Voice) (ms : List Sign) (bytes : List ℕ) → Stands now ms →
    Stands now (ms ++ map ByteSign bytes)
sounds-run now ms [] st = subst (Stands now) (sym (append-nil ms)) st
sounds-run now ms (b ∷ bs) st =
    subst (Stands now) (append_assoc ms (ByteSign b ∷ []) (map ByteSign bs))
    (sounds-run now (ms ++ ByteSign b ∷ []) bs (Stands-after now ms (ByteSign b) st))

pub new-stands : (g : Guarding) → TrackTold g.track [] → track_of g.track ≡ 0 → track_offset g.track ≡ 0 →
    Stands g.guard [] → LineStands g.line [] → g.line.begun ≡ false → GuardingStands g []
new-stands g told track offset sounds line begun = record {
  so_far = record { told = told; of_track = track; kept = sounds; written = line };
  offset = omega (arith, offset);
  begun = begun;
}

-- where feeding or finishing began
abbrev pub before_of : Guarding → Before
before_of g = record {
  made = λ puts. puts;
  none = refl;
  joins = λ xs ys. refl;
  keeps = Stands g.guard;
  track = g.track;
  line = g.line;
}

-- an event suits that the track's reader tells
pub event-suits : (g : Guarding) (guard : List Voice) (line : LineTape) (e : Ev) →
    Suiting (before_of g) (Stands guard) line (signs_of_event e) → suits_event line.writer.in_sysex e ≡ true
event-suits g guard line e s =
    subst (λ (o : Bool). suits_event o e ≡ true) (sym (s.lines).writes.open_now) (apart (signs_in s.told) e s.suits)

-- the end part suits
pub end-suits : (g : Guarding) (bytes : List ℕ) (e : Ev) → GuardHasTold g bytes →
    puts_at (track_moment g.track) (signs_of_event e) ≡ track_end (track_spec g.track) (track_of g.track) bytes →
    suits_event g.line.writer.in_sysex e ≡ true
end-suits g bytes e h is_end =
    let s = track_spec g.track in
    let so_far = track_marks_so_far s 0 bytes in
    subst (λ (o : Bool). suits_event o e ≡ true) (sym (h.written).writes.open_now)
    (apart (signs_in so_far) e
    (ap suited (sym (signs_in-append so_far (puts_at (track_moment g.track) (signs_of_event e))
    ∙ ap (λ ms. signs_in so_far ++ ms) (signs_in-at (track_moment g.track) (signs_of_event e))))
    ∙ (ap (λ ps. suited (signs_in (so_far ++ ps))) (is_end ∙ ap (λ t. track_end s t bytes) h.of_track)
    ∙ all-suit s 0 bytes)))

abbrev pub IsNoShort : Ev → Type 0
IsNoShort (event.Short s) = ⊥
IsNoShort _ = Unit {0}

pub sounds-other : (now : List Voice) (ms : List Sign) (e : Ev) → IsNoShort e → Stands now ms →
    Stands now (ms ++ signs_of_event e)
sounds-other now ms (event.Short s) is st = absurd is
sounds-other now ms (event.Rt r) is st = Stands-after now ms (RtSign r.byte) st
sounds-other now ms event.Open is st = Stands-after now ms OpenSign st
sounds-other now ms (event.Run bytes) is st = sounds-run now ms bytes.now st
sounds-other now ms event.End is st = Stands-after now ms EndSign st
sounds-other now ms event.Abort is st = Stands-after now ms AbortSign st

-- the end of the recording

pub end-heard : (g now : Guarding) (e : Ev) (held kept : List ℕ) (took : List ℕ → Type 0) →
    LineWrote g.line now.line (puts_at (track_moment g.track) (signs_of_event e)) held kept took →
    ((marks : List Sign) → Stands g.guard marks → Stands now.guard (marks ++ signs_of_event e)) →
    ((bytes : List ℕ) → TrackTold g.track bytes →
    puts_at (track_moment g.track) (signs_of_event e) ≡ track_end (track_spec g.track) (track_of g.track) bytes) →
    EndHeard g now held kept took
end-heard g now e held kept took wrote sounds is_end = record {
  more = puts_at (track_moment g.track) (signs_of_event e);
  wrote = wrote;
  sounds = λ marks st.
      subst (λ (ms : List Sign). Stands now.guard (marks ++ ms))
      (sym (signs_in-at (track_moment g.track) (signs_of_event e))) (sounds marks st);
  is_end = λ bytes h. is_end bytes h.told ∙ ap (λ t. track_end (track_spec g.track) t bytes) h.of_track;
}

pub end-halted : (g : Guarding) (e : Ev) (held : List ℕ) (took : List ℕ → Type 0) →
    LineHalted g.line (puts_at (track_moment g.track) (signs_of_event e)) held took →
    ((bytes : List ℕ) → TrackTold g.track bytes →
    puts_at (track_moment g.track) (signs_of_event e) ≡ track_end (track_spec g.track) (track_of g.track) bytes) →
    EndHalted g held took
end-halted g e held took halted is_end = record {
  more = puts_at (track_moment g.track) (signs_of_event e);
  halted = halted;
  is_end = λ bytes h. is_end bytes h.told ∙ ap (λ t. track_end (track_spec g.track) t bytes) h.of_track;
}

pub end-none : (g now : Guarding) (held : List ℕ) (took : List ℕ → Type 0) → took [] → now.line ≡ g.line →
    now.guard ≡ g.guard →
    ((bytes : List ℕ) → TrackTold g.track bytes → [] ≡ track_end (track_spec g.track) (track_of g.track) bytes) →
    EndHeard g now held held took
end-none g now held took none line guard is_end = record {
  more = [];
  wrote =
      subst (λ (z : LineTape). LineWrote g.line z [] held held took) (sym line) (wrote-none g.line held took none);
  sounds = λ marks st.
      subst (λ (ms : List Sign). Stands now.guard ms) (sym (append-nil marks))
      (subst (λ (z : List Voice). Stands z marks) (sym guard) st);
  is_end = λ bytes h. is_end bytes h.told ∙ ap (λ t. track_end (track_spec g.track) t bytes) h.of_track;
}

-- behind it no SysEx is open
pub end-closed : (g now : Guarding) (bytes held kept : List ℕ) (took : List ℕ → Type 0) → GuardHasTold g bytes →
    EndHeard g now held kept took → now.line.writer.in_sysex ≡ false
end-closed g now bytes held kept took h e =
    let s = track_spec g.track in
    let so_far = track_marks_so_far s 0 bytes in
    let line = (e.wrote).stands so_far h.written in
    (line.writes).open_now
    ∙ (ap (λ ps. is_open (signs_in (so_far ++ ps))) (e.is_end bytes h) ∙ all-closed s 0 bytes)

-- what is written in the end
pub ends-as : (g now : Guarding) (bytes held kept : List ℕ) (took : List ℕ → Type 0) → GuardHasTold g bytes →
    (e : EndHeard g now held kept took) → track_moment now.track ≡ track_moment g.track →
    guarded_tape (guarding_spec g) bytes ≡
    line_tape (track_marks_so_far (guarding_spec g) 0 bytes ++ (e.more ++ off_puts now))
ends-as g now bytes held kept took h e at =
    let s = guarding_spec g in
    let so_far = track_marks_so_far s 0 bytes in
    let m = track_moment now.track in
    let marks = so_far ++ e.more in
    let sounds : now.guard ≡ sounding (denotation (signs_in marks)).items
    = e.sounds (signs_in so_far) h.kept
    ∙ ap (λ ms. sounding (denotation ms).items) (sym (signs_in-append so_far e.more)) in
    sym (ap line_tape (sym (append_assoc so_far e.more (off_puts now)))
    ∙ (ap (λ vs. line_tape (marks ++ puts_at m (map off_sign vs))) sounds
    ∙ (ap (λ n. line_tape (guarded n marks)) (at ∙ (h.told).moment)
    ∙ ap (λ ps. line_tape (guarded (last_record_moment (track_records bytes)) (so_far ++ ps))) (e.is_end bytes h))))

-- the same, with nothing behind it
pub ends-all : (g now : Guarding) (bytes held kept : List ℕ) (took : List ℕ → Type 0) → GuardHasTold g bytes →
    (e : EndHeard g now held kept took) → track_moment now.track ≡ track_moment g.track →
    (others : List Put) × (guarded_tape (guarding_spec g) bytes ≡
    line_tape ((track_marks_so_far (guarding_spec g) 0 bytes ++ (e.more ++ off_puts now)) ++ others))
ends-all g now bytes held kept took h e at =
    let all = track_marks_so_far (guarding_spec g) 0 bytes ++ (e.more ++ off_puts now) in
    ([], ends-as g now bytes held kept took h e at ∙ ap line_tape (sym (append-nil all)))

-- what was put of the end when it was refused is a front of it
pub end-front : (g : Guarding) (bytes held : List ℕ) (took : List ℕ → Type 0) → GuardHasTold g bytes →
    (e : EndHalted g held took) →
    (others : List Put) × (guarded_tape (guarding_spec g) bytes ≡
    line_tape ((track_marks_so_far (guarding_spec g) 0 bytes ++ e.more) ++ others))
end-front g bytes held took h e =
    let s = guarding_spec g in
    let offs = puts_at (last_record_moment (track_records bytes)) (off_marks (signs_in (track_marks s 0 bytes))) in
    (offs, ap (λ ps. line_tape ((track_marks_so_far s 0 bytes ++ ps) ++ offs)) (sym (e.is_end bytes h)))

pub has-told : (g g1 : Guarding) → g1.track ≡ g.track → g1.guard ≡ g.guard → g1.line.writer ≡ g.line.writer →
    g1.line.gather ≡ g.line.gather → (bytes : List ℕ) → GuardingStands g bytes → GuardHasTold g1 bytes
has-told g g1 track guard writer gather bytes st = record {
  told = subst (λ t. TrackTold t bytes) (sym track) (st.so_far).told;
  of_track = ap track_of track ∙ (st.so_far).of_track;
  kept =
      subst (λ t. Stands g1.guard (signs_in (track_marks_so_far (track_spec t) 0 bytes))) (sym track)
      (subst (λ (vs : List Voice). Stands vs (signs_in (track_marks_so_far (track_spec g.track) 0 bytes))) (sym guard)
      (st.so_far).kept);
  written =
      subst (λ t. LineStands g1.line (track_marks_so_far (track_spec t) 0 bytes)) (sym track)
      (begun-stands g.line g1.line (track_marks_so_far (track_spec g.track) 0 bytes) writer gather (st.so_far).written);
}

-- the Note Offs

pub record Offs (was now : LineTape) (m : ℕ) (voices left : List Voice) (held kept : List ℕ) (took : List ℕ → Type 0) :
    Type 0 where
  pub done : List Voice
  pub split : voices ≡ done ++ left
  pub wrote : LineWrote was now (puts_at m (map off_sign done)) held kept took

pub offs-none : (line : LineTape) (m : ℕ) (voices : List Voice) (held : List ℕ) (took : List ℕ → Type 0) → took [] →
    Offs line line m voices voices held held took
offs-none line m voices held took none = record { done = []; split = refl; wrote = wrote-none line held took none }

off-more : (m : ℕ) (done : List Voice) (v : Voice) →
    puts_at m (map off_sign (done ++ v ∷ [])) ≡ puts_at m (map off_sign done) ++ puts_at m (off_sign v ∷ [])
off-more m done v =
    ap (puts_at m) (map-append off_sign done (v ∷ [])) ∙ puts_at-append m (map off_sign done) (off_sign v ∷ [])

pub offs-then : (was mid now : LineTape) (m : ℕ) (voices was_left left : List Voice) (v : Voice) (sign : Sign)
    (h k l : List ℕ) (first second both : List ℕ → Type 0) → ((x y : List ℕ) → first x → second y → both (x ++ y)) →
    Offs was mid m voices was_left h k first → was_left ≡ v ∷ left → sign ≡ off_sign v →
    LineWrote mid now (puts_at m (sign ∷ [])) k l second → Offs was now m voices left h l both
offs-then was mid now m voices was_left left v sign h k l first second both joined o e f w = record {
  done = o.done ++ v ∷ [];
  split = o.split ∙ (ap (λ vs. o.done ++ vs) e ∙ sym (append_assoc o.done (v ∷ []) left));
  wrote =
      subst (λ (ps : List Put). LineWrote was now ps h l both) (sym (off-more m o.done v))
      (wrote-then was mid now (puts_at m (map off_sign o.done)) (puts_at m (off_sign v ∷ [])) h k l first second both
      joined o.wrote (subst (λ (z : Sign). LineWrote mid now (puts_at m (z ∷ [])) k l second) f w));
}

pub offs-halted : (was mid : LineTape) (m : ℕ) (voices was_left left : List Voice) (v : Voice) (sign : Sign)
    (h k : List ℕ) (first second both : List ℕ → Type 0) → ((x y : List ℕ) → first x → second y → both (x ++ y)) →
    Offs was mid m voices was_left h k first → was_left ≡ v ∷ left → sign ≡ off_sign v →
    LineHalted mid (puts_at m (sign ∷ [])) k second → LineHalted was (puts_at m (map off_sign voices)) h both
offs-halted was mid m voices was_left left v sign h k first second both joined o e f w =
    let all : puts_at m (map off_sign voices) ≡
    (puts_at m (map off_sign o.done) ++ puts_at m (off_sign v ∷ [])) ++ puts_at m (map off_sign left)
    = ap (λ vs. puts_at m (map off_sign vs))
    (o.split ∙ (ap (λ vs. o.done ++ vs) e ∙ sym (append_assoc o.done (v ∷ []) left)))
    ∙ (ap (puts_at m) (map-append off_sign (o.done ++ v ∷ []) left)
    ∙ (puts_at-append m (map off_sign (o.done ++ v ∷ [])) (map off_sign left)
    ∙ ap (λ ps. ps ++ puts_at m (map off_sign left)) (off-more m o.done v))) in
    subst (λ (ps : List Put). LineHalted was ps h both) (sym all)
    (halted-within was (puts_at m (map off_sign o.done) ++ puts_at m (off_sign v ∷ [])) (puts_at m (map off_sign left))
    h both
    (halted-then was mid (puts_at m (map off_sign o.done)) (puts_at m (off_sign v ∷ [])) h k first second both joined
    o.wrote (subst (λ (z : Sign). LineHalted mid (puts_at m (z ∷ [])) k second) f w)))

pub offs-all : (was now : LineTape) (m : ℕ) (voices left : List Voice) (h k : List ℕ) (took : List ℕ → Type 0) →
    left ≡ [] → Offs was now m voices left h k took → LineWrote was now (puts_at m (map off_sign voices)) h k took
offs-all was now m voices left h k took none o =
    subst (λ (vs : List Voice). LineWrote was now (puts_at m (map off_sign vs)) h k took)
    (sym (o.split ∙ (ap (λ vs. o.done ++ vs) none ∙ append-nil o.done))) o.wrote

-- the Note Off that the guard answers is that of the voice
abbrev sign_meant : Meant → Sign
sign_meant (Message s a b) = ShortSign s a b
sign_meant (Syx ds) = OpenSign
sign_meant (Broken ds) = OpenSign

pub off-is : (s : Short) (v : Voice) → Message s.status s.data1 s.data2 ≡ off_of v →
    ShortSign s.status s.data1 s.data2 ≡ off_sign v
off-is s v e = ap sign_meant e
