-- A piece of a tape on its way, whatever is made of its marks.
use Rattle.std.proofs.Common.{◌≡◌, ℕ, ◌≤◌, ◌<◌, ◌+◌, Bool, true, false, List, [], ◌∷◌, ◌++◌, length, refl, sym, ◌∙◌, ap}
use Rattle.std.proofs.Common.{subst, arith, append_assoc, append-nil, length-append, Option, Some, None}
use Rattle.std.specs.Prelude.{if◌then◌else◌, Result, Ok, Err, IfOk, OnOk}
use Rattle.mb_message.specs.Front.{IsFront, IsPart}
use Rattle.mb_message.specs.Signs.{Sign}
use Rattle.mb_stream.specs.Puts.{Put, puts_at, signs_in}
use Rattle.mb_stream.specs.Standing.{suited}
use Rattle.mb_stream.proofs.PutsLemmas.{signs_in-append, signs_in-at}
use Rattle.mb_frames.specs.Tapes.{magic, tape_fault}
use Rattle.mb_frames.specs.Gathering.{after_magic}
use Rattle.mb_frames.specs.declared.tape.TapeFault.{TapeFault}
use Rattle.mb_outside.specs.TakingLaws.{part-behind}
use Rattle.mb_held.specs.Held.{Holds}
use Rattle.mb_held.proofs.HeldLemmas.{Fronted, holds-then}
use Rattle.mb_carrier.specs.Port.{ReaderStands}
use Rattle.mb_carrier.specs.declared.spec.Spec.{Spec}
use Rattle.mb_track.specs.Track.{track_marks_so_far}
use Rattle.mb_track.specs.TrackReading.{IfNoStep, TrackGoes, TrackStands, TrackTold, track_moment, track_of, track_offset}
use Rattle.mb_track.specs.TrackReading.{track_spec}
use Rattle.mb_track.specs.declared.track.TrackStep.{TrackStep}
use Rattle.mb_track.specs.declared.track.TrackReader.{TrackReader}
use Rattle.mb_track.proofs.FrontLemmas.{told-front, told-suits}
use Rattle.mb_rewrite.specs.LineTape.{line_beyond, line_ended, line_so_far}
use Rattle.mb_rewrite.specs.Line.{LineHalted, LineStands, LineWrote}
use Rattle.mb_rewrite.specs.Rewriting.{Rewriting, is_begun, made_so_far}
use Rattle.mb_rewrite.specs.Guarding.{RewriteHalted, Rewrote}
use Rattle.mb_rewrite.specs.declared.line.LineTape.{LineTape}
use Rattle.mb_rewrite.proofs.LineLemmas.{begun-stands, ended-more, halted-part, live-begun}

-- what is made of marks behind marks stands behind what is made of these
abbrev pub Joins : (made : List Put → List Put) → Type 0
Joins made = (xs ys : List Put) → made (xs ++ ys) ≡ made xs ++ made ys

-- where feeding began
pub record Before : Type 1 where
  pub made : List Put → List Put
  pub none : made [] ≡ []
  pub joins : Joins made
  pub keeps : List Sign → Type 0
  pub track : TrackReader
  pub line : LineTape

abbrev pub Stood : Before → (bytes : List ℕ) → Type 0
Stood w bytes = Rewriting w.made w.keeps w.track w.line bytes

abbrev pub live_of : Before → (bytes : List ℕ) → List ℕ
live_of w bytes = made_so_far w.made (track_spec w.track) bytes

-- what was told of the piece is kept, and was written; `total` is what was handed on and what is held
pub record FedSofar (w : Before) (keeps : List Sign → Type 0) (track : TrackReader) (line : LineTape)
    (piece rest : List ℕ) (total : List ℕ) (bytes : List ℕ) : Type 0 where
  pub taken : List ℕ
  pub told : List Put
  pub split : piece ≡ taken ++ rest
  pub stands : TrackStands track (bytes ++ taken) rest told
  pub kept : keeps (signs_in told)
  pub lines : LineStands line (w.made told)
  pub total_is : live_of w bytes ++ total ≡ after_magic (line_ended (w.made told))

pub record Feeding (w : Before) (keeps : List Sign → Type 0) (track : TrackReader) (line : LineTape)
    (piece rest : List ℕ) (held : List ℕ) (took : List ℕ → Type 0) : Type 0 where
  pub spec : track_spec track ≡ track_spec w.track
  pub of_track : track_of track ≡ track_of w.track
  pub offset : track_offset track + length rest ≤ track_offset w.track + length piece
  pub begun : line.begun ≡ true
  pub total : List ℕ
  pub holds : Holds took total held
  pub sofar : (bytes : List ℕ) → Stood w bytes → FedSofar w keeps track line piece rest total bytes

pub feeding-start : (w : Before) (line : LineTape) (piece held : List ℕ) (took : List ℕ → Type 0) → took [] →
    line.begun ≡ true → line.writer ≡ w.line.writer → line.gather ≡ w.line.gather →
    held ≡ (if w.line.begun then [] else magic true) → Feeding w w.keeps w.track line piece piece held took
feeding-start w line piece held took none begun writer gather held_is = record {
  spec = refl;
  of_track = refl;
  offset = omega arith;
  begun = begun;
  total = held;
  holds = record { given = []; took_it = none; all = refl };
  sofar = λ bytes st.
      let s = track_spec w.track in
      record {
        taken = [];
        told = track_marks_so_far s 0 bytes;
        split = refl;
        stands =
            subst (λ (xs : List ℕ). TrackStands w.track xs piece (track_marks_so_far s 0 bytes))
            (sym (append-nil bytes))
            (subst (λ (t : ℕ). TrackStands w.track bytes piece (track_marks_so_far s t bytes)) (st.so_far).of_track
            ((st.so_far).told.stands piece));
        kept = (st.so_far).kept;
        lines = begun-stands w.line line (w.made (track_marks_so_far s 0 bytes)) writer gather (st.so_far).written;
        total_is =
            ap (λ bs. live_of w bytes ++ bs) held_is
            ∙ live-begun w.made s bytes w.line.begun w.none st.begun;
      };
}

-- an event, of these signs
pub feeding-heard : (w : Before) (keeps keeps_now : List Sign → Type 0) (track now : TrackReader) (line line_now : LineTape)
    (piece rest left held kept : List ℕ) (signs : List Sign) (first second both : List ℕ → Type 0) →
    ((x y : List ℕ) → first x → second y → both (x ++ y)) → Feeding w keeps track line piece rest held first →
    track_spec now ≡ track_spec track → track_of now ≡ track_of track →
    track_offset now + length left ≤ track_offset track + length rest → TrackGoes track now rest left signs →
    ((marks : List Sign) → keeps marks → keeps_now (marks ++ signs)) →
    LineWrote line line_now (w.made (puts_at (track_moment now) signs)) held kept second →
    Feeding w keeps_now now line_now piece left kept both
feeding-heard w keeps keeps_now track now line line_now piece rest left held kept signs first second both joined f spec of
    end goes keep wrote =
    let more = puts_at (track_moment now) signs in
    record {
      spec = spec ∙ f.spec;
      of_track = of ∙ f.of_track;
      offset = omega (arith, end, f.offset);
      begun = wrote.begun ∙ f.begun;
      total = f.total ++ wrote.wrote;
      holds = holds-then first second both f.total wrote.wrote held kept joined f.holds wrote.holds;
      sofar = λ bytes st.
          let t = f.sofar bytes st in
          let gone = goes (bytes ++ t.taken) t.told t.stands in
          record {
            taken = t.taken ++ gone.bytes;
            told = t.told ++ more;
            split = t.split ∙ (ap (λ xs. t.taken ++ xs) gone.front ∙ sym (append_assoc t.taken gone.bytes left));
            stands =
                subst (λ (xs : List ℕ). TrackStands now xs left (t.told ++ more)) (append_assoc bytes t.taken gone.bytes)
                gone.stands;
            kept =
                subst keeps_now (sym (signs_in-append t.told more
                ∙ ap (λ ms. signs_in t.told ++ ms) (signs_in-at (track_moment now) signs)))
                (keep (signs_in t.told) t.kept);
            lines =
                subst (λ (ps : List Put). LineStands line_now ps) (sym (w.joins t.told more))
                (wrote.stands (w.made t.told) t.lines);
            total_is =
                sym (append_assoc (live_of w bytes) f.total wrote.wrote)
                ∙ (ap (λ bs. bs ++ wrote.wrote) t.total_is
                ∙ (append_assoc (magic true) (line_ended (w.made t.told)) wrote.wrote
                ∙ ap after_magic (ap (λ bs. line_ended (w.made t.told) ++ bs) (wrote.beyond (w.made t.told) t.lines)
                ∙ (sym (ended-more (w.made t.told) (w.made more)) ∙ ap line_ended (sym (w.joins t.told more))))));
          };
    }

-- a beginning or an end of a record
pub feeding-passed : (w : Before) (keeps : List Sign → Type 0) (track now : TrackReader) (line : LineTape)
    (piece rest left held : List ℕ) (took : List ℕ → Type 0) → Feeding w keeps track line piece rest held took →
    track_spec now ≡ track_spec track → track_of now ≡ track_of track →
    track_offset now + length left ≤ track_offset track + length rest → TrackGoes track now rest left [] →
    Feeding w keeps now line piece left held took
feeding-passed w keeps track now line piece rest left held took f spec of end goes = record {
  spec = spec ∙ f.spec;
  of_track = of ∙ f.of_track;
  offset = omega (arith, end, f.offset);
  begun = f.begun;
  total = f.total;
  holds = f.holds;
  sofar = λ bytes st.
      let t = f.sofar bytes st in
      let gone = goes (bytes ++ t.taken) t.told t.stands in
      record {
        taken = t.taken ++ gone.bytes;
        told = t.told;
        split = t.split ∙ (ap (λ xs. t.taken ++ xs) gone.front ∙ sym (append_assoc t.taken gone.bytes left));
        stands =
            subst (λ (ps : List Put). TrackStands now (bytes ++ (t.taken ++ gone.bytes)) left ps) (append-nil t.told)
            (subst (λ (xs : List ℕ). TrackStands now xs left (t.told ++ [])) (append_assoc bytes t.taken gone.bytes)
            gone.stands);
        kept = t.kept;
        lines = t.lines;
        total_is = t.total_is;
      };
}

front-of : (r : TrackReader) (taken next : List ℕ) (told : List Put) → TrackStands r taken next told →
    IsFront told (track_marks_so_far (track_spec r) r.track (taken ++ next))
front-of r taken next told st =
    told-front (track_spec r) (ReaderStands r.reader) r.tape r.track r.own r.moment taken next told st

-- signs that the reader tells suit behind those that it told
pub record Suiting (w : Before) (keeps : List Sign → Type 0) (line : LineTape) (signs : List Sign) : Type 0 where
  pub told : List Put
  pub kept : keeps (signs_in told)
  pub lines : LineStands line (w.made told)
  pub suits : suited (signs_in told ++ signs) ≡ true

pub feeding-suits : (w : Before) (keeps : List Sign → Type 0) (track now : TrackReader) (line : LineTape)
    (piece rest left held : List ℕ) (signs : List Sign) (took : List ℕ → Type 0) (bytes : List ℕ) → Stood w bytes →
    Feeding w keeps track line piece rest held took → TrackGoes track now rest left signs → Suiting w keeps line signs
feeding-suits w keeps track now line piece rest left held signs took bytes st f goes =
    let t = f.sofar bytes st in
    let gone = goes (bytes ++ t.taken) t.told t.stands in
    let more = puts_at (track_moment now) signs in
    record {
      told = t.told;
      kept = t.kept;
      lines = t.lines;
      suits =
          ap suited (sym (signs_in-append t.told more
          ∙ ap (λ ms. signs_in t.told ++ ms) (signs_in-at (track_moment now) signs)))
          ∙ told-suits (track_spec now) now.track (((bytes ++ t.taken) ++ gone.bytes) ++ left) (t.told ++ more)
          (front-of now ((bytes ++ t.taken) ++ gone.bytes) left (t.told ++ more) gone.stands);
    }

begun-more : (bytes piece : List ℕ) → 0 < length piece → is_begun (bytes ++ piece) ≡ true
begun-more [] [] some = absurd (omega (arith, some))
begun-more [] (p ∷ ps) some = refl
begun-more (b ∷ bs) piece some = refl

live-is : (made : List Put → List Put) (s : Spec) (bytes piece : List ℕ) → 0 < length piece →
    made_so_far made s (bytes ++ piece) ≡ after_magic (line_ended (made (track_marks_so_far s 0 (bytes ++ piece))))
live-is made s bytes piece some =
    ap (λ (b : Bool). line_so_far b (made (track_marks_so_far s 0 (bytes ++ piece)))) (begun-more bytes piece some)

-- it was refused: an event

pub feeding-refused : (w : Before) (keeps : List Sign → Type 0) (track now : TrackReader) (line : LineTape)
    (piece rest left held : List ℕ) (signs : List Sign) (first second both : List ℕ → Type 0) →
    ((x y : List ℕ) → first x → second y → both (x ++ y)) → 0 < length piece →
    Feeding w keeps track line piece rest held first → track_spec now ≡ track_spec track →
    track_of now ≡ track_of track → TrackGoes track now rest left signs →
    LineHalted line (w.made (puts_at (track_moment now) signs)) held second →
    RewriteHalted (Stood w) (live_of w) (λ bytes. live_of w (bytes ++ piece)) both
feeding-refused w keeps track now line piece rest left held signs first second both joined some f spec of goes halted =
    let holds = f.holds in
    let more = puts_at (track_moment now) signs in
    let s = track_spec w.track in
    record {
      given = holds.given ++ halted.front;
      took_it = joined holds.given halted.front holds.took_it halted.took_it;
      part = λ bytes st.
          let t = f.sofar bytes st in
          let live = live_of w bytes in
          let gone = goes (bytes ++ t.taken) t.told t.stands in
          let made = w.made t.told ++ w.made more in
          let whole : ((bytes ++ t.taken) ++ gone.bytes) ++ left ≡ bytes ++ piece
          = append_assoc (bytes ++ t.taken) gone.bytes left ∙ (ap (λ xs. (bytes ++ t.taken) ++ xs) (sym gone.front)
          ∙ (append_assoc bytes t.taken rest ∙ ap (λ xs. bytes ++ xs) (sym t.split))) in
          let marks : track_marks_so_far (track_spec now) now.track (((bytes ++ t.taken) ++ gone.bytes) ++ left) ≡
          track_marks_so_far s 0 (bytes ++ piece)
          = ap (track_marks_so_far (track_spec now) now.track) whole
          ∙ (ap (λ z. track_marks_so_far z now.track (bytes ++ piece)) (spec ∙ f.spec)
          ∙ ap (λ n. track_marks_so_far s n (bytes ++ piece)) (of ∙ (f.of_track ∙ (st.so_far).of_track))) in
          let front = front-of now ((bytes ++ t.taken) ++ gone.bytes) left (t.told ++ more) gone.stands in
          let made_all : w.made (track_marks_so_far s 0 (bytes ++ piece)) ≡ made ++ w.made front.0
          = ap w.made (sym marks ∙ front.1) ∙ (w.joins (t.told ++ more) front.0
          ∙ ap (λ ps. ps ++ w.made front.0) (w.joins t.told more)) in
          let all : live_of w (bytes ++ piece) ≡ after_magic (line_ended made) ++ line_beyond made (w.made front.0)
          = live-is w.made s bytes piece some
          ∙ (ap (λ ps. after_magic (line_ended ps)) made_all
          ∙ (ap after_magic (ended-more made (w.made front.0))
          ∙ sym (append_assoc (magic true) (line_ended made) (line_beyond made (w.made front.0))))) in
          subst (λ (bs : List ℕ). IsPart bs (live_of w (bytes ++ piece)))
          (append_assoc live holds.given halted.front)
          (halted-part (live ++ holds.given) held halted.front (w.made t.told) (w.made more) (live_of w (bytes ++ piece))
          (append_assoc live holds.given held ∙ (ap (λ bs. live ++ bs) holds.all ∙ t.total_is))
          (line_beyond made (w.made front.0), all) (halted.part (w.made t.told) t.lines));
    }

-- where nothing more is told of the piece

abbrev pub OverSays : (track now : TrackReader) (rest : List ℕ) (fault : Option TapeFault) → Type 0
OverSays track now rest fault =
    (taken : List ℕ) (told : List Put) → TrackStands track taken rest told →
    TrackTold now (taken ++ rest)
    × (told ≡ track_marks_so_far (track_spec track) (track_of track) (taken ++ rest))
    × (tape_fault (taken ++ rest) ≡ fault)

pub record FedOver (w : Before) (keeps : List Sign → Type 0) (now : TrackReader) (line : LineTape) (piece : List ℕ)
    (fault : Option TapeFault) (total : List ℕ) (bytes : List ℕ) : Type 0 where
  pub stands : Rewriting w.made keeps now line (bytes ++ piece)
  pub beyond : live_of w (bytes ++ piece) ≡ live_of w bytes ++ total
  pub fault_is : tape_fault (bytes ++ piece) ≡ fault

feeding-over : (w : Before) (keeps : List Sign → Type 0) (track now : TrackReader) (line : LineTape)
    (piece rest left held : List ℕ) (fault : Option TapeFault) (took : List ℕ → Type 0) → 0 < length piece →
    (f : Feeding w keeps track line piece rest held took) → track_spec now ≡ track_spec track →
    track_of now ≡ track_of track → track_offset now + length left ≤ track_offset track + length rest →
    OverSays track now rest fault → (bytes : List ℕ) → Stood w bytes →
    FedOver w keeps now line piece fault f.total bytes
feeding-over w keeps track now line piece rest left held fault took some f spec of end over bytes st =
    let t = f.sofar bytes st in
    let s = track_spec w.track in
    let o = over (bytes ++ t.taken) t.told t.stands in
    let whole : (bytes ++ t.taken) ++ rest ≡ bytes ++ piece
    = append_assoc bytes t.taken rest ∙ ap (λ xs. bytes ++ xs) (sym t.split) in
    let marks : t.told ≡ track_marks_so_far s 0 (bytes ++ piece)
    = o.1 ∙ (ap (track_marks_so_far (track_spec track) (track_of track)) whole
    ∙ (ap (λ z. track_marks_so_far z (track_of track) (bytes ++ piece)) f.spec
    ∙ ap (λ n. track_marks_so_far s n (bytes ++ piece)) (f.of_track ∙ (st.so_far).of_track))) in
    let now_marks : t.told ≡ track_marks_so_far (track_spec now) 0 (bytes ++ piece)
    = marks ∙ ap (λ z. track_marks_so_far z 0 (bytes ++ piece)) (sym (spec ∙ f.spec)) in
    record {
      stands = record {
        so_far = record {
          told = subst (TrackTold now) whole o.0;
          of_track = of ∙ (f.of_track ∙ (st.so_far).of_track);
          kept = subst (λ (ps : List Put). keeps (signs_in ps)) now_marks t.kept;
          written = subst (λ (ps : List Put). LineStands line (w.made ps)) now_marks t.lines;
        };
        offset = omega (arith, end, f.offset, st.offset, length-append bytes piece);
        begun = f.begun ∙ sym (begun-more bytes piece some);
      };
      beyond =
          live-is w.made s bytes piece some
          ∙ (ap (λ ps. after_magic (line_ended (w.made ps))) (sym marks) ∙ sym t.total_is);
      fault_is = ap tape_fault (sym whole) ∙ o.2;
    }

pub feeding-end : (w : Before) (keeps : List Sign → Type 0) (track now : TrackReader) (line : LineTape)
    (piece rest left held : List ℕ) (fault : Option TapeFault) (first second both : List ℕ → Type 0) →
    ((x y : List ℕ) → first x → second y → both (x ++ y)) → 0 < length piece →
    Feeding w keeps track line piece rest held first → track_spec now ≡ track_spec track →
    track_of now ≡ track_of track → track_offset now + length left ≤ track_offset track + length rest →
    OverSays track now rest fault → second held →
    Rewrote (Stood w) (Rewriting w.made keeps now line) (live_of w) piece fault both
feeding-end w keeps track now line piece rest left held fault first second both joined some f spec of end over took =
    let holds = f.holds in
    let over_at : (bytes : List ℕ) → Stood w bytes → FedOver w keeps now line piece fault f.total bytes
    = feeding-over w keeps track now line piece rest left held fault first some f spec of end over in
    record {
      given = holds.given ++ held;
      took_it = joined holds.given held holds.took_it took;
      stands = λ bytes st. (over_at bytes st).stands;
      beyond = λ bytes st. (over_at bytes st).beyond ∙ ap (λ bs. live_of w bytes ++ bs) (sym holds.all);
      fault_is = λ bytes st. (over_at bytes st).fault_is;
    }

pub feeding-cut : (w : Before) (keeps : List Sign → Type 0) (track now : TrackReader) (line : LineTape)
    (piece rest left held : List ℕ) (fault : Option TapeFault) (first second both : List ℕ → Type 0) →
    ((x y : List ℕ) → first x → second y → both (x ++ y)) → 0 < length piece →
    Feeding w keeps track line piece rest held first → track_spec now ≡ track_spec track →
    track_of now ≡ track_of track → track_offset now + length left ≤ track_offset track + length rest →
    OverSays track now rest fault → Fronted second held →
    RewriteHalted (Stood w) (live_of w) (λ bytes. live_of w (bytes ++ piece)) both
feeding-cut w keeps track now line piece rest left held fault first second both joined some f spec of end over t =
    let holds = f.holds in
    record {
      given = holds.given ++ t.0;
      took_it = joined holds.given t.0 holds.took_it t.2;
      part = λ bytes st.
          let live = live_of w bytes in
          let o = feeding-over w keeps track now line piece rest left held fault first some f spec of end over bytes
          st in
          subst (λ (bs : List ℕ). IsPart (live ++ (holds.given ++ t.0)) bs)
          (sym (o.beyond ∙ ap (λ bs. live ++ bs) (sym holds.all)))
          (part-behind live (holds.given ++ t.0) (holds.given ++ held) (part-behind holds.given t.0 held t.1));
    }

-- of answers

pub over-of : (o : Option TrackStep) (P : Type 0) → o ≡ None → IfNoStep (Ok o) P → P
over-of None P e p = p
over-of (Some step) P e p = cc

pub if-ok-as : {E T : Type 0} (r : Result T E) (f : T) (P : Type 0) (Q : T → Type 0) → (P → Q f) →
    IfOk r (λ t. t ≡ f) → OnOk r P → IfOk r Q
if-ok-as (Ok t) f P Q q e p = subst Q (sym e) (q p)
if-ok-as (Err x) f P Q q e p = tt
