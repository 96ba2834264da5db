-- Marks behind marks as a byte line's tape.
use Rattle.std.proofs.Common.{◌≡◌, ℕ, Bool, true, false, List, [], ◌∷◌, ◌++◌, map, length, refl, sym, ◌∙◌, ap, subst}
use Rattle.std.proofs.Common.{append_assoc, append-nil}
use Rattle.std.specs.Prelude.{flat_map, if◌then◌else◌}
use Rattle.std.proofs.lemmas.Bool.{false≢true}
use Rattle.std.proofs.lemmas.List.{append_cancel_left, map-append}
use Rattle.std.proofs.lemmas.List.Concat.{flat_map-append}
use Rattle.mb_message.specs.Front.{IsFront, IsPart}
use Rattle.std.specs.List.{list_all}
use Rattle.mb_stream.proofs.StandingLemmas.{both}
use Rattle.mb_message.specs.Signs.{ByteSign, Sign, suits_sign}
use Rattle.mb_stream.specs.Appended.{Appended}
use Rattle.mb_stream.specs.Puts.{Put, At, Flush, puts_at, signs_in}
use Rattle.mb_stream.specs.Standing.{Standing, standing}
use Rattle.mb_stream.proofs.PutsLemmas.{signs_in-append, signs_in-at}
use Rattle.mb_din.specs.Writer as din
use Rattle.mb_din.specs.Written.{din_spelled, din_written, stream_written}
use Rattle.std.specs.Prelude.{Result, Ok, Err, OnOk}
use Rattle.mb_frames.specs.Gathered.{TimedByte, gathered}
use Rattle.mb_frames.specs.Gathering.{Piece, after_magic, ended_by, no_piece, with_byte}
use Rattle.mb_frames.specs.Tapes.{magic}
use Rattle.mb_outside.specs.TakingLaws.{part-within, part-behind}
use Rattle.mb_held.specs.Held.{Holds}
use Rattle.mb_held.proofs.HeldLemmas.{Fronted, fronted-then, fronted-within, holds-more, holds-then}
use Rattle.mb_carrier.specs.declared.spec.Spec.{Spec}
use Rattle.mb_track.specs.Track.{track_marks_so_far}
use Rattle.mb_rewrite.specs.Rewriting.{is_begun, made_so_far}
use Rattle.mb_rewrite.specs.LineTape.{byte_at, ended_from, line_beyond, line_ended, piece_after, timed_behind}
use Rattle.mb_rewrite.specs.LineTape.{timed_bytes}
use Rattle.mb_rewrite.specs.Line.{LineHalted, LineStands, LineWrote}
use Rattle.mb_rewrite.specs.declared.line.LineTape.{LineTape}

pub ended-append : (p : Piece) (xs ys : List TimedByte) →
    ended_from p (xs ++ ys) ≡ ended_from p xs ++ ended_from (piece_after p xs) ys
ended-append p [] ys = refl
ended-append p (x ∷ xs) ys =
    ap (λ zs. ended_by p x ++ zs) (ended-append (with_byte p x) xs ys)
    ∙ sym (append_assoc (ended_by p x) (ended_from (with_byte p x) xs)
    (ended_from (piece_after (with_byte p x) xs) ys))

pub piece-append : (p : Piece) (xs ys : List TimedByte) → piece_after p (xs ++ ys) ≡ piece_after (piece_after p xs) ys
piece-append p [] ys = refl
piece-append p (x ∷ xs) ys = piece-append (with_byte p x) xs ys

pub timed-append : (before : List Sign) (ps qs : List Put) →
    timed_behind before (ps ++ qs) ≡ timed_behind before ps ++ timed_behind (before ++ signs_in ps) qs
timed-append before [] qs = ap (λ ms. timed_behind ms qs) (sym (append-nil before))
timed-append before (At m s ∷ ps) qs =
    let here = map (byte_at m) (din_spelled (record { before = before; mark = s })) in
    ap (λ ts. here ++ ts) (timed-append (before ++ s ∷ []) ps qs
    ∙ ap (λ ms. timed_behind (before ++ s ∷ []) ps ++ timed_behind ms qs)
    (append_assoc before (s ∷ []) (signs_in ps)))
    ∙ sym (append_assoc here (timed_behind (before ++ s ∷ []) ps) (timed_behind (before ++ s ∷ signs_in ps) qs))
timed-append before (Flush ∷ ps) qs = timed-append before ps qs

pub ended-more : (puts more : List Put) → line_ended (puts ++ more) ≡ line_ended puts ++ line_beyond puts more
ended-more puts more =
    ap (ended_from no_piece) (timed-append [] puts more)
    ∙ ended-append no_piece (timed_bytes puts) (timed_behind (signs_in puts) more)

pub piece-more : (puts more : List Put) →
    piece_after no_piece (timed_bytes (puts ++ more)) ≡
    piece_after (piece_after no_piece (timed_bytes puts)) (timed_behind (signs_in puts) more)
piece-more puts more =
    ap (piece_after no_piece) (timed-append [] puts more)
    ∙ piece-append no_piece (timed_bytes puts) (timed_behind (signs_in puts) more)

pub beyond-more : (puts more others : List Put) →
    line_beyond puts (more ++ others) ≡ line_beyond puts more ++ line_beyond (puts ++ more) others
beyond-more puts more others =
    append_cancel_left (line_ended puts) (line_beyond puts (more ++ others))
    (line_beyond puts more ++ line_beyond (puts ++ more) others)
    (sym (ended-more puts (more ++ others))
    ∙ (ap line_ended (sym (append_assoc puts more others))
    ∙ (ended-more (puts ++ more) others
    ∙ (ap (λ bs. bs ++ line_beyond (puts ++ more) others) (ended-more puts more)
    ∙ append_assoc (line_ended puts) (line_beyond puts more) (line_beyond (puts ++ more) others)))))

standing-append : (before ms ns : List Sign) →
    standing before (ms ++ ns) ≡ standing before ms ++ standing (before ++ ms) ns
standing-append before [] ns = ap (λ xs. standing xs ns) (sym (append-nil before))
standing-append before (m ∷ ms) ns =
    ap (λ (xs : List Standing). record { before = before; mark = m } ∷ xs)
    (standing-append (before ++ m ∷ []) ms ns
    ∙ ap (λ xs. standing (before ++ m ∷ []) ms ++ standing xs ns) (append_assoc before (m ∷ []) ms))

written-more : (ms ns : List Sign) → din_written (ms ++ ns) ≡ din_written ms ++ flat_map din_spelled (standing ms ns)
written-more ms ns =
    ap (flat_map din_spelled) (standing-append [] ms ns) ∙ flat_map-append din_spelled (standing [] ms) (standing ms ns)

timed-at : (before : List Sign) (m : ℕ) (signs : List Sign) →
    timed_behind before (puts_at m signs) ≡ map (byte_at m) (flat_map din_spelled (standing before signs))
timed-at before m [] = refl
timed-at before m (s ∷ signs) =
    let here = din_spelled (record { before = before; mark = s }) in
    ap (λ ts. map (byte_at m) here ++ ts) (timed-at (before ++ s ∷ []) m signs)
    ∙ sym (map-append (byte_at m) here (flat_map din_spelled (standing (before ++ s ∷ []) signs)))

-- what a byte line's writer appends to nothing is what these marks are written as behind those before
pub spelled-is : (marks signs : List Sign) (m : ℕ) (bytes : List ℕ) →
    Appended [] bytes (din_written marks) (din_written (marks ++ signs)) →
    map (byte_at m) bytes ≡ timed_behind marks (puts_at m signs)
spelled-is marks signs m bytes a =
    ap (map (byte_at m)) (a.grown
    ∙ append_cancel_left (din_written marks) a.wrote (flat_map din_spelled (standing marks signs))
    (sym a.beyond ∙ written-more marks signs))
    ∙ sym (timed-at marks m signs)

-- two steps

pub wrote-then : (a b c : LineTape) (xs ys : List Put) (h k l : List ℕ) (first second both : List ℕ → Type 0) →
    ((x y : List ℕ) → first x → second y → both (x ++ y)) →
    LineWrote a b xs h k first → LineWrote b c ys k l second → LineWrote a c (xs ++ ys) h l both
wrote-then a b c xs ys h k l first second both joined f g = record {
  wrote = f.wrote ++ g.wrote;
  holds =
      subst (λ (zs : List ℕ). Holds both zs l) (append_assoc h f.wrote g.wrote)
      (holds-then first second both (h ++ f.wrote) g.wrote k l joined f.holds g.holds);
  begun = g.begun ∙ f.begun;
  stands = λ puts st.
      subst (λ (ps : List Put). LineStands c ps) (append_assoc puts xs ys) (g.stands (puts ++ xs) (f.stands puts st));
  beyond = λ puts st.
      ap (λ zs. zs ++ g.wrote) (f.beyond puts st)
      ∙ (ap (λ zs. line_beyond puts xs ++ zs) (g.beyond (puts ++ xs) (f.stands puts st))
      ∙ sym (beyond-more puts xs ys));
}

pub halted-then : (a b : LineTape) (xs ys : List Put) (h k : List ℕ) (first second both : List ℕ → Type 0) →
    ((x y : List ℕ) → first x → second y → both (x ++ y)) →
    LineWrote a b xs h k first → LineHalted b ys k second → LineHalted a (xs ++ ys) h both
halted-then a b xs ys h k first second both joined f g = record {
  front = (f.holds).given ++ g.front;
  took_it = joined (f.holds).given g.front (f.holds).took_it g.took_it;
  part = λ puts st.
      subst (λ (zs : List ℕ). IsPart ((f.holds).given ++ g.front) zs)
      (sym (append_assoc (f.holds).given k (line_beyond (puts ++ xs) ys))
      ∙ (ap (λ zs. zs ++ line_beyond (puts ++ xs) ys) ((f.holds).all ∙ ap (λ zs. h ++ zs) (f.beyond puts st))
      ∙ (append_assoc h (line_beyond puts xs) (line_beyond (puts ++ xs) ys)
      ∙ ap (λ zs. h ++ zs) (sym (beyond-more puts xs ys)))))
      (part-behind (f.holds).given g.front (k ++ line_beyond (puts ++ xs) ys)
      (g.part (puts ++ xs) (f.stands puts st)));
}

pub halted-within : (a : LineTape) (xs ys : List Put) (h : List ℕ) (took : List ℕ → Type 0) →
    LineHalted a xs h took → LineHalted a (xs ++ ys) h took
halted-within a xs ys h took f = record {
  front = f.front;
  took_it = f.took_it;
  part = λ puts st.
      part-within f.front (h ++ line_beyond puts xs) (h ++ line_beyond puts (xs ++ ys)) (f.part puts st) (
        line_beyond (puts ++ xs) ys,
        ap (λ zs. h ++ zs) (beyond-more puts xs ys)
            ∙ sym (append_assoc h (line_beyond puts xs) (line_beyond (puts ++ xs) ys)),
      );
}

pub wrote-none : (a : LineTape) (h : List ℕ) (took : List ℕ → Type 0) → took [] → LineWrote a a [] h h took
wrote-none a h took none = record {
  wrote = [];
  holds = record { given = []; took_it = none; all = sym (append-nil h) };
  begun = refl;
  stands = λ puts st. subst (λ (ps : List Put). LineStands a ps) (sym (append-nil puts)) st;
  beyond = λ puts st. refl;
}

-- bytes of one moment, one by one

-- of so many bytes a part is gathered; what is to be gathered ends what is still owed
pub record Gathering (was now : Piece) (all left : List TimedByte) (held kept : List ℕ) (took : List ℕ → Type 0) : Type 0
  where
    pub wrote : List ℕ
    pub holds : Holds took (held ++ wrote) kept
    pub rest : ended_from was all ≡ wrote ++ ended_from now left
    pub piece : piece_after was all ≡ piece_after now left

pub gathering-none : (p : Piece) (all : List TimedByte) (held : List ℕ) (took : List ℕ → Type 0) → took [] →
    Gathering p p all all held held took
gathering-none p all held took none = record {
  wrote = [];
  holds = record { given = []; took_it = none; all = sym (append-nil held) };
  rest = refl;
  piece = refl;
}

pub gathering-byte : (was now : Piece) (all left : List TimedByte) (t : TimedByte) (held kept placed last : List ℕ)
    (first second both : List ℕ → Type 0) → ((x y : List ℕ) → first x → second y → both (x ++ y)) →
    Gathering was now all (t ∷ left) held kept first → Holds second kept placed →
    last ≡ placed ++ ended_by now t → Gathering was (with_byte now t) all left held last both
gathering-byte was now all left t held kept placed last first second both joined g h e = record {
  wrote = g.wrote ++ ended_by now t;
  holds =
      subst (λ (zs : List ℕ). Holds both zs last) (append_assoc held g.wrote (ended_by now t))
      (holds-then first second both (held ++ g.wrote) (ended_by now t) kept last joined g.holds
      (holds-more second kept (ended_by now t) placed last h e));
  rest = g.rest ∙ sym (append_assoc g.wrote (ended_by now t) (ended_from (with_byte now t) left));
  piece = g.piece;
}

pub gathering-refused : (was now : Piece) (all left : List TimedByte) (held kept : List ℕ)
    (first second both : List ℕ → Type 0) → ((x y : List ℕ) → first x → second y → both (x ++ y)) →
    Gathering was now all left held kept first → Fronted second kept →
    Fronted both (held ++ ended_from was all)
gathering-refused was now all left held kept first second both joined g f =
    fronted-within both (held ++ g.wrote) (held ++ ended_from was all)
    (subst (Fronted both) (append-nil (held ++ g.wrote))
    (fronted-then first second both (held ++ g.wrote) [] kept joined g.holds
    (subst (Fronted second) (sym (append-nil kept)) f))) (
      ended_from now left,
      ap (λ zs. held ++ zs) g.rest ∙ sym (append_assoc held g.wrote (ended_from now left)),
    )

pub gathering-all : (was now : Piece) (all : List TimedByte) (held kept : List ℕ) (took : List ℕ → Type 0) →
    Gathering was now all [] held kept took →
    (now ≡ piece_after was all) × Holds took (held ++ ended_from was all) kept
gathering-all was now all held kept took g = (
  sym g.piece,
  subst (λ (zs : List ℕ). Holds took (held ++ zs) kept) (sym (g.rest ∙ append-nil g.wrote)) g.holds,
)

pub on-both : {T E : Type 0} (r : Result T E) (P Q R : Type 0) → (P → Q → R) → OnOk r P → OnOk r Q → OnOk r R
on-both (Ok x) P Q R f p q = f p q
on-both (Err x) P Q R f p q = tt

-- an event

spelled-by : (running : Bool) (ms signs : List Sign) (m : ℕ) (spelled : List ℕ) → running ≡ true →
    Appended [] spelled (stream_written running ms) (stream_written running (ms ++ signs)) →
    map (byte_at m) spelled ≡ timed_behind ms (puts_at m signs)
spelled-by running ms signs m spelled e a =
    spelled-is ms signs m spelled
    (subst (λ (z : Bool). Appended [] spelled (stream_written z ms) (stream_written z (ms ++ signs))) e a)

pub one-beyond : (was : LineTape) (m : ℕ) (signs : List Sign) (spelled : List ℕ) →
    ((ms : List Sign) → din.Stands was.writer ms →
    Appended [] spelled (stream_written was.writer.running ms) (stream_written was.writer.running (ms ++ signs))) →
    (puts : List Put) → LineStands was puts →
    ended_from was.gather (map (byte_at m) spelled) ≡ line_beyond puts (puts_at m signs)
one-beyond was m signs spelled spells puts st =
    ap (λ (p : Piece). ended_from p (map (byte_at m) spelled)) st.gathers
    ∙ ap (ended_from (piece_after no_piece (timed_bytes puts)))
    (spelled-by was.writer.running (signs_in puts) signs m spelled st.running (spells (signs_in puts) st.writes))

pub one-wrote : (was now : LineTape) (m : ℕ) (signs : List Sign) (spelled held kept : List ℕ)
    (took : List ℕ → Type 0) → now.writer.running ≡ was.writer.running →
    ((ms : List Sign) → din.Stands was.writer ms → din.Stands now.writer (ms ++ signs)) →
    ((ms : List Sign) → din.Stands was.writer ms →
    Appended [] spelled (stream_written was.writer.running ms) (stream_written was.writer.running (ms ++ signs))) →
    now.begun ≡ was.begun → now.gather ≡ piece_after was.gather (map (byte_at m) spelled) →
    Holds took (held ++ ended_from was.gather (map (byte_at m) spelled)) kept →
    LineWrote was now (puts_at m signs) held kept took
one-wrote was now m signs spelled held kept took same stands spells begun piece holds = record {
  wrote = ended_from was.gather (map (byte_at m) spelled);
  holds = holds;
  begun = begun;
  stands = λ puts st. record {
    running = same ∙ st.running;
    writes =
        subst (din.Stands now.writer) (sym (signs_in-append puts (puts_at m signs)
        ∙ ap (λ ms. signs_in puts ++ ms) (signs_in-at m signs))) (stands (signs_in puts) st.writes);
    gathers =
        piece ∙ (ap (λ (p : Piece). piece_after p (map (byte_at m) spelled)) st.gathers
        ∙ (ap (piece_after (piece_after no_piece (timed_bytes puts)))
        (spelled-by was.writer.running (signs_in puts) signs m spelled st.running (spells (signs_in puts) st.writes))
        ∙ sym (piece-more puts (puts_at m signs))));
  };
  beyond = one-beyond was m signs spelled spells;
}

pub one-halted : (was : LineTape) (m : ℕ) (signs : List Sign) (spelled held : List ℕ) (took : List ℕ → Type 0) →
    ((ms : List Sign) → din.Stands was.writer ms →
    Appended [] spelled (stream_written was.writer.running ms) (stream_written was.writer.running (ms ++ signs))) →
    Fronted took (held ++ ended_from was.gather (map (byte_at m) spelled)) →
    LineHalted was (puts_at m signs) held took
one-halted was m signs spelled held took spells f = record {
  front = f.0;
  took_it = f.2;
  part = λ puts st.
      subst (λ (zs : List ℕ). IsPart f.0 (held ++ zs)) (one-beyond was m signs spelled spells puts st) f.1;
}

pub appended-by : (empty full bytes less more : List ℕ) → empty ≡ [] → bytes ≡ full → Appended empty full less more →
    Appended [] bytes less more
appended-by empty full bytes less more e f a =
    subst (λ (xs : List ℕ). Appended [] xs less more) (sym f)
    (subst (λ (xs : List ℕ). Appended xs full less more) e a)

-- SysEx data, piece by piece

pub record RunWrote (was now : LineTape) (m : ℕ) (bytes rest : List ℕ) (held kept : List ℕ) (took : List ℕ → Type 0) :
    Type 0 where
  pub front : List ℕ
  pub split : bytes ≡ front ++ rest
  pub wrote : LineWrote was now (puts_at m (map ByteSign front)) held kept took

run-puts : (m : ℕ) (xs ys : List ℕ) →
    puts_at m (map ByteSign (xs ++ ys)) ≡ puts_at m (map ByteSign xs) ++ puts_at m (map ByteSign ys)
run-puts m xs ys =
    ap (puts_at m) (map-append ByteSign xs ys) ∙ map-append (At m) (map ByteSign xs) (map ByteSign ys)

pub run-none : (a : LineTape) (m : ℕ) (bytes held : List ℕ) (took : List ℕ → Type 0) → took [] →
    RunWrote a a m bytes bytes held held took
run-none a m bytes held took none = record { front = []; split = refl; wrote = wrote-none a held took none }

pub run-then : (a b c : LineTape) (m : ℕ) (bytes rest first others : List ℕ) (h k l : List ℕ)
    (before here both : List ℕ → Type 0) → ((x y : List ℕ) → before x → here y → both (x ++ y)) →
    RunWrote a b m bytes rest h k before → rest ≡ first ++ others →
    LineWrote b c (puts_at m (map ByteSign first)) k l here → RunWrote a c m bytes others h l both
run-then a b c m bytes rest first others h k l before here both joined r e w = record {
  front = r.front ++ first;
  split = r.split ∙ (ap (λ xs. r.front ++ xs) e ∙ sym (append_assoc r.front first others));
  wrote =
      subst (λ (ps : List Put). LineWrote a c ps h l both) (sym (run-puts m r.front first))
      (wrote-then a b c (puts_at m (map ByteSign r.front)) (puts_at m (map ByteSign first)) h k l before here both joined
      r.wrote w);
}

pub run-halted : (a b : LineTape) (m : ℕ) (bytes rest first others : List ℕ) (h k : List ℕ)
    (before here both : List ℕ → Type 0) → ((x y : List ℕ) → before x → here y → both (x ++ y)) →
    RunWrote a b m bytes rest h k before → rest ≡ first ++ others →
    LineHalted b (puts_at m (map ByteSign first)) k here → LineHalted a (puts_at m (map ByteSign bytes)) h both
run-halted a b m bytes rest first others h k before here both joined r e w =
    let all : puts_at m (map ByteSign bytes) ≡
    (puts_at m (map ByteSign r.front) ++ puts_at m (map ByteSign first)) ++ puts_at m (map ByteSign others)
    = ap (λ xs. puts_at m (map ByteSign xs)) (r.split ∙ (ap (λ xs. r.front ++ xs) e
    ∙ sym (append_assoc r.front first others)))
    ∙ (run-puts m (r.front ++ first) others
    ∙ ap (λ ps. ps ++ puts_at m (map ByteSign others)) (run-puts m r.front first)) in
    subst (λ (ps : List Put). LineHalted a ps h both) (sym all)
    (halted-within a (puts_at m (map ByteSign r.front) ++ puts_at m (map ByteSign first))
    (puts_at m (map ByteSign others)) h both
    (halted-then a b (puts_at m (map ByteSign r.front)) (puts_at m (map ByteSign first)) h k before here both joined
    r.wrote w))

pub run-all : (a b : LineTape) (m : ℕ) (bytes rest h k : List ℕ) (took : List ℕ → Type 0) → rest ≡ [] →
    RunWrote a b m bytes rest h k took → LineWrote a b (puts_at m (map ByteSign bytes)) h k took
run-all a b m bytes rest h k took none r =
    subst (λ (xs : List ℕ). LineWrote a b (puts_at m (map ByteSign xs)) h k took)
    (sym (r.split ∙ (ap (λ xs. r.front ++ xs) none ∙ append-nil r.front))) r.wrote

all-behind : (p : Sign → Bool) (xs ys : List ℕ) → list_all p (map ByteSign (xs ++ ys)) ≡ true →
    list_all p (map ByteSign ys) ≡ true
all-behind p [] ys h = h
all-behind p (x ∷ xs) ys h = all-behind p xs ys (both (p (ByteSign x)) (list_all p (map ByteSign (xs ++ ys))) h).1

pub suits-behind : (now was : Bool) (rest xs ys : List ℕ) → now ≡ was → rest ≡ xs ++ ys →
    list_all (suits_sign was) (map ByteSign rest) ≡ true → list_all (suits_sign now) (map ByteSign ys) ≡ true
suits-behind now was rest xs ys e f h =
    subst (λ (z : Bool). list_all (suits_sign z) (map ByteSign ys) ≡ true) (sym e)
    (all-behind (suits_sign was) xs ys (ap (λ zs. list_all (suits_sign was) (map ByteSign zs)) (sym f) ∙ h))

-- the magic is there from the first byte on

pub begun-stands : (was now : LineTape) (puts : List Put) → now.writer ≡ was.writer → now.gather ≡ was.gather →
    LineStands was puts → LineStands now puts
begun-stands was now puts e f st = record {
  running = ap (λ w. w.running) e ∙ st.running;
  writes = subst (λ w. din.Stands w (signs_in puts)) (sym e) st.writes;
  gathers = f ∙ st.gathers;
}

pub live-begun : (made : List Put → List Put) (s : Spec) (bytes : List ℕ) (begun : Bool) → made [] ≡ [] →
    begun ≡ is_begun bytes →
    made_so_far made s bytes ++ (if begun then [] else magic true) ≡
    after_magic (line_ended (made (track_marks_so_far s 0 bytes)))
live-begun made s [] false none e = ap (λ ps. after_magic (line_ended ps)) (sym none)
live-begun made s [] true none e = absurd (false≢true (sym e))
live-begun made s (b ∷ bs) true none e = append-nil (after_magic (line_ended (made (track_marks_so_far s 0 (b ∷ bs)))))
live-begun made s (b ∷ bs) false none e = absurd (false≢true e)

-- a front of what is ended stands behind what was handed on before
pub halted-part : (live held front : List ℕ) (puts more : List Put) (tape : List ℕ) →
    live ++ held ≡ after_magic (line_ended puts) → IsFront (after_magic (line_ended (puts ++ more))) tape →
    IsPart front (held ++ line_beyond puts more) → IsPart (live ++ front) tape
halted-part live held front puts more tape base whole part =
    part-within (live ++ front) (live ++ (held ++ line_beyond puts more)) tape
    (part-behind live front (held ++ line_beyond puts more) part)
    (subst (λ (bs : List ℕ). IsFront bs tape)
    (sym (sym (append_assoc live held (line_beyond puts more))
    ∙ (ap (λ bs. bs ++ line_beyond puts more) base
    ∙ (append_assoc (magic true) (line_ended puts) (line_beyond puts more)
    ∙ ap after_magic (sym (ended-more puts more)))))) whole)
