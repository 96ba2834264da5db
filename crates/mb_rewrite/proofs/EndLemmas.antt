-- What is written in the end, and how much of it was handed on before, whatever is made of the marks.
use Rattle.std.proofs.Common.{◌≡◌, ℕ, Bool, true, false, List, [], ◌∷◌, ◌++◌, refl, sym, ◌∙◌, ap, subst}
use Rattle.std.proofs.Common.{append_assoc, append-nil}
use Rattle.std.specs.Prelude.{if◌then◌else◌}
use Rattle.mb_message.specs.Front.{IsFront, IsPart}
use Rattle.mb_stream.specs.Puts.{Put}
use Rattle.mb_frames.specs.Tapes.{magic}
use Rattle.mb_frames.specs.Gathered.{TimedByte}
use Rattle.mb_frames.specs.Gathering.{Piece, after_magic, ended_by, gathering, no_piece, with_byte, written_piece}
use Rattle.mb_frames.proofs.GatherLemmas.{Gathers-nothing}
use Rattle.mb_outside.specs.TakingLaws.{part-behind}
use Rattle.mb_held.specs.Held.{Holds}
use Rattle.mb_held.proofs.HeldLemmas.{Fronted}
use Rattle.mb_carrier.specs.declared.spec.Spec.{Spec}
use Rattle.mb_track.specs.Track.{track_marks_so_far}
use Rattle.mb_track.specs.TrackReading.{track_spec}
use Rattle.mb_rewrite.specs.LineTape.{ended_from, line_beyond, line_ended, line_tape, piece_after, timed_bytes}
use Rattle.mb_rewrite.specs.Line.{LineHalted, LineStands, LineWrote}
use Rattle.mb_rewrite.specs.Guarding.{RewriteHalted, RewroteEnd}
use Rattle.mb_rewrite.specs.declared.line.LineTape.{LineTape}
use Rattle.mb_rewrite.proofs.FeedLemmas.{Before, Stood, live_of}
use Rattle.mb_rewrite.proofs.LineLemmas.{begun-stands, ended-more, halted-part, live-begun}

-- the whole tape is its ended records and the one under way

gathering-ended : (p : Piece) (ts : List TimedByte) →
    gathering p ts ≡ ended_from p ts ++ written_piece (piece_after p ts).moment (piece_after p ts).bytes
gathering-ended p [] = refl
gathering-ended p (t ∷ ts) =
    ap (λ bs. ended_by p t ++ bs) (gathering-ended (with_byte p t) ts)
    ∙ sym (append_assoc (ended_by p t) (ended_from (with_byte p t) ts)
    (written_piece (piece_after (with_byte p t) ts).moment (piece_after (with_byte p t) ts).bytes))

abbrev pub waiting : List Put → List ℕ
waiting puts = written_piece (piece_after no_piece (timed_bytes puts)).moment (piece_after no_piece (timed_bytes puts)).bytes

pub tape-is : (puts : List Put) → line_tape puts ≡ after_magic (line_ended puts ++ waiting puts)
tape-is puts = (Gathers-nothing).rest (timed_bytes puts) ∙ ap after_magic (gathering-ended no_piece (timed_bytes puts))

pub tape-front : (puts more : List Put) → IsFront (after_magic (line_ended puts)) (line_tape (puts ++ more))
tape-front puts more =
    let rest = line_beyond puts more ++ waiting (puts ++ more) in (
      rest,
      tape-is (puts ++ more)
          ∙ ap after_magic (ap (λ bs. bs ++ waiting (puts ++ more)) (ended-more puts more)
          ∙ append_assoc (line_ended puts) (line_beyond puts more) (waiting (puts ++ more)))
          ∙ sym (append_assoc (magic true) (line_ended puts) rest),
    )

all-written : (live held wrote given kept rest ended tape : List ℕ) → live ++ held ≡ after_magic ended →
    given ++ kept ≡ held ++ wrote → tape ≡ after_magic ((ended ++ wrote) ++ rest) →
    tape ≡ live ++ (given ++ (kept ++ rest))
all-written live held wrote given kept rest ended tape base all is =
    is ∙ sym (ap (λ bs. live ++ bs) (sym (append_assoc given kept rest) ∙ ap (λ bs. bs ++ rest) all)
    ∙ (sym (append_assoc live (held ++ wrote) rest)
    ∙ (ap (λ bs. bs ++ rest) (sym (append_assoc live held wrote) ∙ ap (λ bs. bs ++ wrote) base)
    ∙ (append_assoc (after_magic ended) wrote rest
    ∙ (append_assoc (magic true) ended (wrote ++ rest) ∙ ap after_magic (sym (append_assoc ended wrote rest)))))))

-- The end of a tape, from a line whose magic was written: `more` is put behind all that was made so far.

abbrev pub made_then : Before → (bytes : List ℕ) → (more : List Put) → List Put
made_then w bytes more = w.made (track_marks_so_far (track_spec w.track) 0 bytes) ++ more

-- the line with its magic
pub record BeginsLine (w : Before) (line : LineTape) (held : List ℕ) : Type 0 where
  pub writer : line.writer ≡ w.line.writer
  pub gather : line.gather ≡ w.line.gather
  pub held_is : held ≡ (if w.line.begun then [] else magic true)

line-stands : (w : Before) (line : LineTape) (held : List ℕ) (bytes : List ℕ) → BeginsLine w line held →
    Stood w bytes → LineStands line (w.made (track_marks_so_far (track_spec w.track) 0 bytes))
line-stands w line held bytes b st =
    begun-stands w.line line (w.made (track_marks_so_far (track_spec w.track) 0 bytes)) b.writer b.gather (st.so_far).written

live-held : (w : Before) (line : LineTape) (held : List ℕ) (bytes : List ℕ) → BeginsLine w line held →
    Stood w bytes →
    live_of w bytes ++ held ≡ after_magic (line_ended (w.made (track_marks_so_far (track_spec w.track) 0 bytes)))
live-held w line held bytes b st =
    ap (λ bs. live_of w bytes ++ bs) b.held_is
    ∙ live-begun w.made (track_spec w.track) bytes w.line.begun w.none st.begun

end-beyond : (w : Before) (line last : LineTape) (held kept rest : List ℕ) (took : List ℕ → Type 0) (more : List Put)
    (tape bytes : List ℕ) → BeginsLine w line held → (f : LineWrote line last more held kept took) →
    rest ≡ written_piece last.gather.moment last.gather.bytes → Stood w bytes →
    tape ≡ line_tape (made_then w bytes more) →
    tape ≡ live_of w bytes ++ ((f.holds).given ++ (kept ++ rest))
end-beyond w line last held kept rest took more tape bytes b f rest_is st tape_is_made =
    let so_far = w.made (track_marks_so_far (track_spec w.track) 0 bytes) in
    let stands = line-stands w line held bytes b st in
    let last_stands = f.stands so_far stands in
    let holds = f.holds in
    all-written (live_of w bytes) held f.wrote holds.given kept rest (line_ended so_far) tape
    (live-held w line held bytes b st) holds.all
    (tape_is_made
    ∙ (tape-is (so_far ++ more)
    ∙ ap after_magic (ap (λ bs. bs ++ waiting (so_far ++ more))
    (ended-more so_far more ∙ ap (λ bs. line_ended so_far ++ bs) (sym (f.beyond so_far stands)))
    ∙ ap (λ bs. (line_ended so_far ++ f.wrote) ++ bs)
    (ap (λ (p : Piece). written_piece p.moment p.bytes) (sym last_stands.gathers) ∙ sym rest_is))))

pub ended-all : (w : Before) (line last : LineTape) (held kept rest : List ℕ) (first second both : List ℕ → Type 0)
    (more : List Put) (tape : List ℕ → List ℕ) → ((x y : List ℕ) → first x → second y → both (x ++ y)) →
    BeginsLine w line held → LineWrote line last more held kept first →
    rest ≡ written_piece last.gather.moment last.gather.bytes →
    ((bytes : List ℕ) → Stood w bytes → tape bytes ≡ line_tape (made_then w bytes more)) → second (kept ++ rest) →
    RewroteEnd (Stood w) (live_of w) tape both
ended-all w line last held kept rest first second both more tape joined b f rest_is is took =
    let holds = f.holds in
    record {
      given = holds.given ++ (kept ++ rest);
      took_it = joined holds.given (kept ++ rest) holds.took_it took;
      beyond = λ bytes st.
          end-beyond w line last held kept rest first more (tape bytes) bytes b f rest_is st (is bytes st);
    }

-- it was refused: while what was put was written, or what was held

pub halted-end : (w : Before) (line : LineTape) (held : List ℕ) (took : List ℕ → Type 0) (more : List Put)
    (tape : List ℕ → List ℕ) → BeginsLine w line held → LineHalted line more held took →
    ((bytes : List ℕ) → Stood w bytes → (others : List Put) × (tape bytes ≡ line_tape (made_then w bytes more ++ others))) →
    RewriteHalted (Stood w) (live_of w) tape took
halted-end w line held took more tape b f is = record {
  given = f.front;
  took_it = f.took_it;
  part = λ bytes st.
      let so_far = w.made (track_marks_so_far (track_spec w.track) 0 bytes) in
      let all = is bytes st in
      halted-part (live_of w bytes) held f.front so_far more (tape bytes) (live-held w line held bytes b st)
      (subst (λ (bs : List ℕ). IsFront (after_magic (line_ended (so_far ++ more))) bs) (sym all.1)
      (tape-front (so_far ++ more) all.0))
      (f.part so_far (line-stands w line held bytes b st));
}

pub halted-last : (w : Before) (line last : LineTape) (held kept rest : List ℕ) (first second both : List ℕ → Type 0)
    (more : List Put) (tape : List ℕ → List ℕ) → ((x y : List ℕ) → first x → second y → both (x ++ y)) →
    BeginsLine w line held → LineWrote line last more held kept first →
    rest ≡ written_piece last.gather.moment last.gather.bytes →
    ((bytes : List ℕ) → Stood w bytes → tape bytes ≡ line_tape (made_then w bytes more)) →
    Fronted second (kept ++ rest) → RewriteHalted (Stood w) (live_of w) tape both
halted-last w line last held kept rest first second both more tape joined b f rest_is is front =
    let holds = f.holds in
    record {
      given = holds.given ++ front.0;
      took_it = joined holds.given front.0 holds.took_it front.2;
      part = λ bytes st.
          let live = live_of w bytes in
          subst (λ (bs : List ℕ). IsPart (live ++ (holds.given ++ front.0)) bs)
          (sym (end-beyond w line last held kept rest first more (tape bytes) bytes b f rest_is st (is bytes st)))
          (part-behind live (holds.given ++ front.0) (holds.given ++ (kept ++ rest))
          (part-behind holds.given front.0 (kept ++ rest) front.1));
    }
