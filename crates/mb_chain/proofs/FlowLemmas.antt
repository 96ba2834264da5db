-- Bytes of one moment on their way through a row of hops.
use Rattle.std.specs.Prelude.{not, ◌==◌}
use Rattle.std.proofs.lemmas.Bool.Decides.{nat_tests}
use Rattle.std.proofs.Common.{◌≡◌, ℕ, ◌+◌, ◌<◌, ◌≤◌, ◌^◌, Bool, true, false, Option, Some, None, List, [], ◌∷◌, ◌++◌}
use Rattle.std.proofs.Common.{length, map, refl, sym, ◌∙◌, ap, subst, append_assoc, arith, length-append}
use Rattle.std.proofs.lemmas.List.{append-nil}
use Rattle.mb_message.specs.Signs.{Sign, signs_of_event}
use Rattle.mb_stream.specs.Puts.{Put, signs_in, puts_at}
use Rattle.mb_stream.specs.Standing.{suited}
use Rattle.mb_stream.specs.Told.{Known}
use Rattle.mb_message.specs.Front.{IsFront, IsPart}
use Rattle.mb_outside.specs.TakingLaws.{part-within, part-behind}
use Rattle.mb_carrier.specs.Carrier.{known, puts_known, puts_so_far, last_byte_moment, live}
use Rattle.mb_carrier.specs.Conversion.{moments_of}
use Rattle.mb_carrier.specs.Hop.{HopStands, HaveMoment}
use Rattle.mb_carrier.specs.Fill.{Flows, OnItsWay, More, HasMoment, unread}
use Rattle.mb_carrier.specs.Port.{reader_spec, reader_offset, reader_moment, ReaderStands, writer_spec, WriterStands}
use Rattle.mb_carrier.specs.declared.piece.Piece.{Piece}
use Rattle.mb_carrier.specs.declared.spec.Spec.{Spec}
use Rattle.mb_carrier.proofs.FillLemmas.{flows-handed, flows-start}
use Rattle.mb_carrier.proofs.Fronts.{front-then}
use Rattle.mb_carrier.proofs.GrowLemmas.{held-moment}
use Rattle.mb_carrier.proofs.GrowSpecs.{grows}
use Rattle.mb_carrier.proofs.PutLemmas.{puts_known-append}
use Rattle.mb_carrier.proofs.ReadingLemmas.{suited-so_far}
use Rattle.mb_carrier.proofs.SpecLaws.{reads}
use Rattle.mb_chain.specs.Row.{Link, link_of, hands_on, moments_on, live_over, HaveOne, IsApart, RowStands, IsEarly}
use Rattle.mb_chain.specs.Row.{RowFed, RowHalted, last_after}
use Rattle.mb_chain.specs.declared.hop.Hop.{Hop}
use Rattle.mb_chain.proofs.RowLemmas.{Agree, row-again, over-again, row-front, early-front, early-short, first-agree}
use Rattle.mb_chain.proofs.RowLemmas.{last-more}

abbrev Reader : Type 1
Reader = List ℕ → List Known → Type 0

abbrev Writer : Type 1
Writer = List Put → Type 0

-- A hop in the midst of its input.

way-more : (s t : Spec) (moments at : ℕ → ℕ) (reader : Reader) (writer : Writer) (bytes : List ℕ)
    (left : Option Piece) (puts : List Put) (base held : List ℕ) →
    OnItsWay s t moments at reader writer bytes left puts base held → (more : List Put) ×
    (puts_so_far s moments bytes ≡ puts ++ more)
way-more s t moments at reader writer bytes (Some p) puts base held f =
    let owes : List Put = puts_at (at p.moment) (signs_of_event p.ev) in
    let rest : List Put = puts_known s moments (f.front).0 in (
      owes ++ rest,
      ap (puts_known s moments) (f.front).1
          ∙ (puts_known-append s moments f.told (f.front).0
          ∙ (ap (λ ps. ps ++ rest) f.told_are ∙ append_assoc puts owes rest)),
    )
way-more s t moments at reader writer bytes None puts base held f = ([], sym f.puts_are ∙ sym (append-nil puts))

way-live : (s t : Spec) (moments at : ℕ → ℕ) (reader : Reader) (writer : Writer) (bytes : List ℕ)
    (left : Option Piece) (puts : List Put) (base held : List ℕ) →
    OnItsWay s t moments at reader writer bytes left puts base held → live t puts ≡ base ++ held
way-live s t moments at reader writer bytes (Some p) puts base held f = f.live_is
way-live s t moments at reader writer bytes None puts base held f = f.live_is

way-handed : (s t : Spec) (moments at : ℕ → ℕ) (reader : Reader) (writer : Writer) (bytes : List ℕ)
    (left : Option Piece) (puts : List Put) (base held : List ℕ) →
    OnItsWay s t moments at reader writer bytes left puts base held →
    OnItsWay s t moments at reader writer bytes left puts (base ++ held) []
way-handed s t moments at reader writer bytes (Some p) puts base held f =
    flows-handed s t moments p.moment reader writer bytes p.rest.now
    (puts_at (at p.moment) (signs_of_event p.ev)) puts base held f
way-handed s t moments at reader writer bytes None puts base held f = record {
  stands = f.stands;
  puts_are = f.puts_are;
  live_is = f.live_is ∙ sym (append-nil (base ++ held));
}

-- what a hop in the midst of its input has written is written of all of it
way-front : (s t : Spec) (moments at : ℕ → ℕ) (reader : Reader) (writer : Writer) (bytes : List ℕ)
    (left : Option Piece) (puts : List Put) (base held : List ℕ) →
    OnItsWay s t moments at reader writer bytes left puts base held →
    IsFront (base ++ held) (live t (puts_so_far s moments bytes))
way-front s t moments at reader writer bytes left puts base held w =
    let more = way-more s t moments at reader writer bytes left puts base held w in
    let f = (grows t).stays puts more.0 (ap (λ ps. suited (signs_in ps)) (sym more.1) ∙ suited-so_far s moments
    (reads s) bytes) in (
      f.0,
      ap (live t) more.1 ∙ (f.1 ∙ ap (λ xs. xs ++ f.0)
          (way-live s t moments at reader writer bytes left puts base held w)),
    )

-- What a call of the hop says: of whatever is on its way, some marks more were put.
abbrev pub GoesOn : (s t : Spec) (at at_now : ℕ → ℕ) (reader reader_now : Reader) (writer writer_now : Writer)
    (apart : Bool) (m : ℕ) (left left_now : Option Piece) (held : List ℕ) → Type 0
GoesOn s t at at_now reader reader_now writer writer_now apart m left left_now held =
    (moments : ℕ → ℕ) (bytes : List ℕ) (puts : List Put) (base : List ℕ) →
    OnItsWay s t moments at reader writer bytes left puts base [] →
    More apart m puts (λ ps. OnItsWay s t moments at_now reader_now writer_now bytes left_now ps base held)

-- what the hop wrote has one moment, where there are hops behind
way-one : (links : List Link) (s t : Spec) (moments at at_now : ℕ → ℕ) (reader reader_now : Reader)
    (writer writer_now : Writer) (apart : Bool) (m : ℕ) (bytes : List ℕ) (left left_now : Option Piece)
    (puts : List Put) (base held : List ℕ) →
    IsApart links apart → OnItsWay s t moments at reader writer bytes left puts base [] →
    More apart m puts (λ ps. OnItsWay s t moments at_now reader_now writer_now bytes left_now ps base held) →
    HaveOne links (moments_on (record { reads = s; writes = t }) moments bytes) (length base) (length held) m
way-one [] s t moments at at_now reader reader_now writer writer_now apart m bytes left left_now puts base held is_apart
    was now = tt
way-one (l ∷ ls) s t moments at at_now reader reader_now writer writer_now apart m bytes left left_now puts base held
    is_apart was now =
    let marks = now.1 is_apart in
    let w = subst (λ (d : List Put). OnItsWay s t moments at_now reader_now writer_now bytes left_now
    (puts ++ d) base held) marks.1 now.2 in
    let ps : List Put = puts ++ puts_at m marks.0 in
    let more = way-more s t moments at_now reader_now writer_now bytes left_now ps base held w in
    subst (λ (qs : List Put). HaveMoment (moments_of t 0 qs) (length base) (length held) m) (sym more.1)
    (held-moment t (grows t) 0 puts m marks.0 more.0 base held
    (ap (λ qs. suited (signs_in qs)) (sym more.1) ∙ suited-so_far s moments (reads s) bytes)
    (way-live s t moments at reader writer bytes left puts base [] was ∙ append-nil base)
    (way-live s t moments at_now reader_now writer_now bytes left_now ps base held w))

-- `before` was handed to the hop before, `piece` is; it handed on `handed` of it, and the taker took `given`. The
-- moments of what is handed on are those that the whole of it will have.
pub record Driven (links : List Link) (l : Link) (moments at : ℕ → ℕ) (reader : Reader) (writer : Writer)
    (behind : (ℕ → ℕ) → List ℕ → Type 0) (wrote offset : ℕ) (piece : List ℕ) (left : Option Piece)
    (handed given before : List ℕ) : Type 0 where
  pub puts : List Put
  pub way : OnItsWay l.reads l.writes moments at reader writer (before ++ piece) left puts
      (hands_on l moments before ++ handed) []
  pub behind_stands : behind (moments_on l moments (before ++ piece)) (hands_on l moments before ++ handed)
  pub wrote_is : wrote ≡ length (hands_on l moments before ++ handed)
  pub offset_is : offset + unread left ≡ length (before ++ piece)
  pub beyond : live_over links (moments_on l moments (before ++ piece)) (hands_on l moments before ++ handed)
      ≡ live_over links (moments_on l moments (before ++ piece)) (hands_on l moments before) ++ given

-- a hop and those behind it, handed these bytes
abbrev pub RowOf : Hop → List Hop → (ℕ → ℕ) → List ℕ → Type 0
RowOf h hs moments bytes = RowStands (h ∷ hs) moments bytes

pub record Driving (links : List Link) (h : Hop) (hs : List Hop) (at : ℕ → ℕ) (reader : Reader) (writer : Writer)
    (behind : (ℕ → ℕ) → List ℕ → Type 0) (wrote offset moment : ℕ) (piece : List ℕ) (left : Option Piece)
    (took : List ℕ → Type 0) : Type 0 where
  pub handed : List ℕ
  pub given : List ℕ
  pub took_it : took given
  pub driven : (moments : ℕ → ℕ) (before : List ℕ) → RowOf h hs moments before →
      HaveMoment moments (length before) (length piece) moment →
      Driven links (link_of h) moments at reader writer behind wrote offset piece left handed given before

pub driving-start : (links : List Link) (h : Hop) (hs : List Hop) (moment : ℕ) (piece : List ℕ) (p : Piece)
    (left : Option Piece) (took : List ℕ → Type 0) → left ≡ Some p →
    p.moment ≡ moment → signs_of_event p.ev ≡ [] → p.rest.now ≡ piece → took [] →
    Driving links h hs (reader_moment h.reader) (ReaderStands h.reader) (WriterStands h.writer) (RowStands hs) h.wrote
    (reader_offset h.reader) moment piece left took
driving-start links h hs moment piece p left took is at_moment no_event rest_is none =
    subst (λ (o : Option Piece). Driving links h hs (reader_moment h.reader) (ReaderStands h.reader)
    (WriterStands h.writer) (RowStands hs) h.wrote (reader_offset h.reader) moment piece o took) (sym is)
    (record {
      handed = [];
      given = [];
      took_it = none;
      driven = λ moments before row have.
          let l : Link = link_of h in
          let s : Spec = l.reads in
          let t : Spec = l.writes in
          let at : ℕ → ℕ = reader_moment h.reader in
          let puts : List Put = puts_so_far s moments before in
          let first : List ℕ = hands_on l moments before in
          let same : first ≡ first ++ [] = sym (append-nil first) in
          let then : ℕ → ℕ = moments_on l moments (before ++ piece) in
          record {
            puts = puts;
            way =
                subst (λ (k : ℕ). Flows s t moments k (ReaderStands h.reader) (WriterStands h.writer)
                (before ++ piece) p.rest.now (puts_at (at p.moment) (signs_of_event p.ev)) puts (first ++ []) [])
                (sym at_moment)
                (subst (λ (xs : List ℕ). Flows s t moments moment (ReaderStands h.reader) (WriterStands h.writer)
                (before ++ piece) xs (puts_at (at p.moment) (signs_of_event p.ev)) puts (first ++ []) [])
                (sym rest_is)
                (subst (λ (ms : List Sign). Flows s t moments moment (ReaderStands h.reader) (WriterStands h.writer)
                (before ++ piece) piece (puts_at (at p.moment) ms) puts (first ++ []) []) (sym no_event)
                (subst (λ (base : List ℕ). Flows s t moments moment (ReaderStands h.reader) (WriterStands h.writer)
                (before ++ piece) piece [] puts base []) same
                (flows-start s t moments moment (ReaderStands h.reader) (WriterStands h.writer) before piece
                ((reads s).stays) (row.0).stands have))));
            behind_stands = subst (RowStands hs then) same
                (row-again hs (moments_on l moments before) then first (first-agree l moments before piece) row.1);
            wrote_is = (row.0).wrote ∙ ap length same;
            offset_is = omega (arith, (row.0).offset, length-append before piece, ap length rest_is);
            beyond = ap (live_over links then) (append-nil first) ∙ sym (append-nil (live_over links then first));
          };
    })

-- what the hop wrote was handed on
pub driving-step : (links : List Link) (h : Hop) (hs : List Hop) (at at_now : ℕ → ℕ) (reader reader_now : Reader)
    (writer writer_now : Writer) (behind behind_now : (ℕ → ℕ) → List ℕ → Type 0)
    (wrote wrote_now offset offset_now moment : ℕ) (apart : Bool) (m : ℕ) (piece : List ℕ)
    (left left_now : Option Piece) (held : List ℕ) (took_first took_second took : List ℕ → Type 0) →
    ((x y : List ℕ) → took_first x → took_second y → took (x ++ y)) → IsApart links apart →
    GoesOn (reader_spec h.reader)
    (writer_spec h.writer) at at_now reader reader_now writer writer_now apart m left left_now held →
    wrote_now ≡ wrote + length held → offset_now + unread left_now ≡ offset + unread left →
    Driving links h hs at reader writer behind wrote offset moment piece left took_first →
    RowFed links behind behind_now m held took_second →
    Driving links h hs at_now reader_now writer_now behind_now wrote_now offset_now moment piece left_now took
driving-step links h hs at at_now reader reader_now writer writer_now behind behind_now wrote wrote_now offset
    offset_now moment apart m piece left left_now held took_first took_second took both apart_is goes more same d fed =
    record {
      handed = d.handed ++ held;
      given = d.given ++ fed.given;
      took_it = both d.given fed.given d.took_it fed.took_it;
      driven = λ moments before row have.
          let l : Link = link_of h in
          let a = d.driven moments before row have in
          let first : List ℕ = hands_on l moments before in
          let base : List ℕ = first ++ d.handed in
          let then : ℕ → ℕ = moments_on l moments (before ++ piece) in
          let assoc : base ++ held ≡ first ++ (d.handed ++ held) = append_assoc first d.handed held in
          let w = goes moments (before ++ piece) a.puts base a.way in
          let ps : List Put = a.puts ++ w.0 in
          let one = way-one links l.reads l.writes moments at at_now reader reader_now writer writer_now apart m
          (before ++ piece) left left_now a.puts base held apart_is a.way w in
          record {
            puts = ps;
            way =
                subst (λ (xs : List ℕ). OnItsWay l.reads l.writes moments at_now reader_now writer_now
                (before ++ piece) left_now ps xs []) assoc
                (way-handed l.reads l.writes moments at_now reader_now writer_now
                (before ++ piece) left_now ps base held w.2);
            behind_stands = subst (behind_now then) assoc (fed.stands then base a.behind_stands one);
            wrote_is = omega (arith, more, a.wrote_is, length-append base held, ap length assoc);
            offset_is = same ∙ a.offset_is;
            beyond =
                ap (live_over links then) (sym assoc)
                ∙ (fed.beyond then base a.behind_stands one
                ∙ (ap (λ xs. xs ++ fed.given) a.beyond ∙ append_assoc (live_over links then first) d.given fed.given));
          };
    }

-- the taker refused what the hop wrote
pub driving-halted : (links : List Link) (h : Hop) (hs : List Hop) (at at_now : ℕ → ℕ) (reader reader_now : Reader)
    (writer writer_now : Writer) (behind : (ℕ → ℕ) → List ℕ → Type 0) (wrote offset moment : ℕ) (apart : Bool) (m : ℕ)
    (piece : List ℕ) (left left_now : Option Piece) (held : List ℕ) (took_first took_second took : List ℕ → Type 0) →
    ((x y : List ℕ) → took_first x → took_second y → took (x ++ y)) → IsApart links apart →
    GoesOn (reader_spec h.reader)
    (writer_spec h.writer) at at_now reader reader_now writer writer_now apart m left left_now held →
    Driving links h hs at reader writer behind wrote offset moment piece left took_first →
    RowHalted links behind m held took_second →
    RowHalted (link_of h ∷ links) (RowOf h hs) moment piece took
driving-halted links h hs at at_now reader reader_now writer writer_now behind wrote offset moment apart m piece left
    left_now held took_first took_second took both apart_is goes d halted =
    record {
      given = d.given ++ halted.given;
      took_it = both d.given halted.given d.took_it halted.took_it;
      front = λ moments before row have.
          let l : Link = link_of h in
          let a = d.driven moments before row have in
          let first : List ℕ = hands_on l moments before in
          let base : List ℕ = first ++ d.handed in
          let then : ℕ → ℕ = moments_on l moments (before ++ piece) in
          let w = goes moments (before ++ piece) a.puts base a.way in
          let ps : List Put = a.puts ++ w.0 in
          let one = way-one links l.reads l.writes moments at at_now reader reader_now writer writer_now apart m
          (before ++ piece) left left_now a.puts base held apart_is a.way w in
          let f = halted.front then base a.behind_stands one in
          let g = row-front links then (base ++ held) (hands_on l moments (before ++ piece))
          (way-front l.reads l.writes moments at_now reader_now writer_now
          (before ++ piece) left_now ps base held w.2) in
          let same = over-again links (moments_on l moments before) then first (first-agree l moments before piece) in
          subst (λ (xs : List ℕ). IsPart xs (live_over links then (hands_on l moments (before ++ piece))))
          (ap (λ xs. xs ++ halted.given) (a.beyond ∙ ap (λ xs. xs ++ d.given) (sym same))
          ∙ append_assoc (live_over links (moments_on l moments before) first) d.given halted.given)
          (part-within _ _ _ f g);
    }

-- something that a row was handed before, and that may come behind it
abbrev pub MayFlow : List Link → (was : (ℕ → ℕ) → List ℕ → Type 0) (moment : ℕ) (piece : List ℕ) → Type 0
MayFlow links was moment piece =
    (moments : ℕ → ℕ) × (before : List ℕ) × was moments before × IsEarly links moments (before ++ piece) ×
    HaveOne links moments (length before) (length piece) moment

-- what the hop wrote may be handed on
pub driving-may : (links : List Link) (h : Hop) (hs : List Hop) (at at_now : ℕ → ℕ) (reader reader_now : Reader)
    (writer writer_now : Writer) (behind : (ℕ → ℕ) → List ℕ → Type 0) (wrote offset moment : ℕ) (apart : Bool) (m : ℕ)
    (piece : List ℕ) (left left_now : Option Piece) (held : List ℕ) (took : List ℕ → Type 0) →
    IsApart links apart → GoesOn (reader_spec h.reader)
    (writer_spec h.writer) at at_now reader reader_now writer writer_now apart m left left_now held →
    Driving links h hs at reader writer behind wrote offset moment piece left took →
    MayFlow (link_of h ∷ links) (RowOf h hs) moment piece → MayFlow links behind m held
driving-may links h hs at at_now reader reader_now writer writer_now behind wrote offset moment apart m piece left
    left_now held took apart_is goes d f =
    let l : Link = link_of h in
    let a = d.driven f.0 f.1 f.2 f.4 in
    let base : List ℕ = hands_on l f.0 f.1 ++ d.handed in
    let then : ℕ → ℕ = moments_on l f.0 (f.1 ++ piece) in
    let w = goes f.0 (f.1 ++ piece) a.puts base a.way in (
      then,
      base,
      a.behind_stands,
      early-front links then (base ++ held) (hands_on l f.0 (f.1 ++ piece))
          (way-front l.reads l.writes f.0 at_now reader_now writer_now (f.1 ++ piece) left_now
          (a.puts ++ w.0) base held w.2) (f.3).1,
      way-one links l.reads l.writes f.0 at at_now reader reader_now writer writer_now apart m
          (f.1 ++ piece) left left_now a.puts base held apart_is a.way w,
    )

-- the number of bytes written stays small
pub driving-small : (links : List Link) (h : Hop) (hs : List Hop) (at at_now : ℕ → ℕ) (reader reader_now : Reader)
    (writer writer_now : Writer) (behind : (ℕ → ℕ) → List ℕ → Type 0) (wrote offset moment : ℕ) (apart : Bool) (m : ℕ)
    (piece : List ℕ) (left left_now : Option Piece) (held : List ℕ) (took : List ℕ → Type 0) →
    GoesOn (reader_spec h.reader)
    (writer_spec h.writer) at at_now reader reader_now writer writer_now apart m left left_now held →
    Driving links h hs at reader writer behind wrote offset moment piece left took →
    MayFlow (link_of h ∷ links) (RowOf h hs) moment piece → wrote + length held ≤ 2 ^ 51 + 2 ^ 14
driving-small links h hs at at_now reader reader_now writer writer_now behind wrote offset moment apart m piece left
    left_now held took goes d f =
    let l : Link = link_of h in
    let a = d.driven f.0 f.1 f.2 f.4 in
    let base : List ℕ = hands_on l f.0 f.1 ++ d.handed in
    let then : ℕ → ℕ = moments_on l f.0 (f.1 ++ piece) in
    let w = goes f.0 (f.1 ++ piece) a.puts base a.way in
    let early : IsEarly links then (base ++ held) =
    early-front links then (base ++ held) (hands_on l f.0 (f.1 ++ piece))
    (way-front l.reads l.writes f.0 at_now reader_now writer_now (f.1 ++ piece) left_now
    (a.puts ++ w.0) base held w.2) (f.3).1 in
    omega (arith, early-short links then (base ++ held) early, a.wrote_is, length-append base held)

-- all of the piece went through
pub driving-fed : (links : List Link) (h h_now : Hop) (hs hs_now : List Hop) (moment : ℕ) (piece : List ℕ)
    (left : Option Piece) (took : List ℕ → Type 0) →
    left ≡ None → reader_spec h_now.reader ≡ reader_spec h.reader → writer_spec h_now.writer ≡ writer_spec h.writer →
    h_now.last ≡ last_after h.last moment piece →
    Driving links h hs (reader_moment h_now.reader) (ReaderStands h_now.reader) (WriterStands h_now.writer)
    (RowStands hs_now) h_now.wrote (reader_offset h_now.reader) moment piece left took →
    RowFed (link_of h ∷ links) (RowOf h hs) (RowOf h_now hs_now) moment piece took
driving-fed links h h_now hs hs_now moment piece left took none reads_same writes_same last_is d0 =
    let d = subst (λ (o : Option Piece). Driving links h hs (reader_moment h_now.reader) (ReaderStands h_now.reader)
    (WriterStands h_now.writer) (RowStands hs_now) h_now.wrote
    (reader_offset h_now.reader) moment piece o took) none d0 in
    let l : Link = link_of h in
    let same : link_of h_now ≡ l = λ i. record { reads = reads_same i; writes = writes_same i } in
    record {
      given = d.given;
      took_it = d.took_it;
      stands = λ moments before row have.
          let a = d.driven moments before row have in
          let base : List ℕ = hands_on l moments before ++ d.handed in
          let all : hands_on l moments (before ++ piece) ≡ base = ap (live l.writes) (sym a.way.puts_are)
          ∙ (a.way.live_is ∙ append-nil base) in
          let wrote : h_now.wrote ≡ length (hands_on l moments (before ++ piece)) = a.wrote_is ∙ ap length (sym all) in
          let behind : RowStands hs_now (moments_on l moments (before ++ piece))
          (hands_on l moments (before ++ piece)) =
          subst (RowStands hs_now (moments_on l moments (before ++ piece))) (sym all) a.behind_stands in (
            record {
              offset = omega (arith, a.offset_is);
              last = last_is ∙ last-more moments before piece moment h.last have (row.0).last;
              stands = subst (λ (s : Spec). HopStands s moments (ReaderStands h_now.reader)
                  (WriterStands h_now.writer) (before ++ piece)) (sym reads_same) a.way.stands;
              wrote = subst (λ (k : Link). h_now.wrote ≡ length (hands_on k moments (before ++ piece)))
                  (sym same) wrote;
            },
            subst (λ (k : Link). RowStands hs_now (moments_on k moments (before ++ piece))
                (hands_on k moments (before ++ piece))) (sym same) behind,
          );
      beyond = λ moments before row have.
          let a = d.driven moments before row have in
          let first : List ℕ = hands_on l moments before in
          let base : List ℕ = first ++ d.handed in
          let then : ℕ → ℕ = moments_on l moments (before ++ piece) in
          let all : hands_on l moments (before ++ piece) ≡ base = ap (live l.writes) (sym a.way.puts_are)
          ∙ (a.way.live_is ∙ append-nil base) in
          ap (live_over links then) all
          ∙ (a.beyond ∙ ap (λ xs. xs ++ d.given) (sym (over-again links (moments_on l moments before) then first
          (first-agree l moments before piece))));
    }

-- What the code's steps say, said of the row at the beginning.

-- what a call says of its own specs, buffer and moment
pub way-goes : (s other t other_t : Spec) (at at_now : ℕ → ℕ) (reader reader_now : Reader)
    (writer writer_now : Writer) (apart : Bool) (m other_m : ℕ) (left left_now : Option Piece) (empty held : List ℕ) →
    other ≡ s → other_t ≡ t → empty ≡ [] → m ≡ other_m →
    ((moments : ℕ → ℕ) (bytes : List ℕ) (puts : List Put) (base : List ℕ) →
    OnItsWay other other_t moments at reader writer bytes left puts base empty →
    More apart other_m puts
    (λ ps. OnItsWay other other_t moments at_now reader_now writer_now bytes left_now ps base held)) →
    GoesOn s t at at_now reader reader_now writer writer_now apart m left left_now held
way-goes s other t other_t at at_now reader reader_now writer writer_now apart m other_m left left_now empty held same
    same_t none is goes =
    subst (λ (k : ℕ). GoesOn s t at at_now reader reader_now writer writer_now apart k left left_now held) (sym is)
    (subst (λ (u : Spec). GoesOn u t at at_now reader reader_now writer writer_now apart other_m left left_now held)
    same
    (subst (λ (v : Spec). GoesOn other v at at_now reader reader_now writer writer_now apart other_m left left_now held)
    same_t
    (subst (λ (xs : List ℕ). (moments : ℕ → ℕ) (bytes : List ℕ) (puts : List Put) (base : List ℕ) →
    OnItsWay other other_t moments at reader writer bytes left puts base xs →
    More apart other_m puts
    (λ ps. OnItsWay other other_t moments at_now reader_now writer_now bytes left_now ps base held)) none goes)))

pub driving-left : (links : List Link) (h : Hop) (hs : List Hop) (at : ℕ → ℕ) (reader : Reader) (writer : Writer)
    (behind : (ℕ → ℕ) → List ℕ → Type 0) (wrote offset moment : ℕ) (piece : List ℕ) (left other : Option Piece)
    (took : List ℕ → Type 0) →
    left ≡ other → Driving links h hs at reader writer behind wrote offset moment piece left took →
    Driving links h hs at reader writer behind wrote offset moment piece other took
driving-left links h hs at reader writer behind wrote offset moment piece left other took same d =
    subst (λ (o : Option Piece). Driving links h hs at reader writer behind wrote offset moment piece o took) same d

-- something is on its way
pub driving-way : (links : List Link) (h : Hop) (hs : List Hop) (other other_t : Spec) (at : ℕ → ℕ) (reader : Reader)
    (writer : Writer) (behind : (ℕ → ℕ) → List ℕ → Type 0) (wrote offset moment : ℕ) (piece : List ℕ)
    (left : Option Piece) (empty : List ℕ) (took : List ℕ → Type 0) →
    other ≡ reader_spec h.reader → other_t ≡ writer_spec h.writer → empty ≡ [] →
    Driving links h hs at reader writer behind wrote offset moment piece left took →
    MayFlow (link_of h ∷ links) (RowOf h hs) moment piece →
    (moments : ℕ → ℕ) × (bytes : List ℕ) × (puts : List Put) × (base : List ℕ) ×
    OnItsWay other other_t moments at reader writer bytes left puts base empty
driving-way links h hs other other_t at reader writer behind wrote offset moment piece left empty took same same_t none
    d f =
    let a = d.driven f.0 f.1 f.2 f.4 in
    let base : List ℕ = hands_on (link_of h) f.0 f.1 ++ d.handed in (
      f.0,
      f.1 ++ piece,
      a.puts,
      base,
      subst (λ (u : Spec). OnItsWay u other_t f.0 at reader writer (f.1 ++ piece) left a.puts base empty) (sym same)
          (subst (λ (v : Spec). OnItsWay (reader_spec h.reader) v f.0 at reader writer
          (f.1 ++ piece) left a.puts base empty) (sym same_t)
          (subst (λ (xs : List ℕ). OnItsWay (reader_spec h.reader) (writer_spec h.writer) f.0 at reader writer
          (f.1 ++ piece) left a.puts base xs) (sym none) a.way)),
    )

pub driving-offset : (links : List Link) (h : Hop) (hs : List Hop) (at : ℕ → ℕ) (reader : Reader) (writer : Writer)
    (behind : (ℕ → ℕ) → List ℕ → Type 0) (wrote offset moment : ℕ) (piece : List ℕ) (p : Piece)
    (took : List ℕ → Type 0) →
    Driving links h hs at reader writer behind wrote offset moment piece (Some p) took →
    MayFlow (link_of h ∷ links) (RowOf h hs) moment piece →
    offset + length p.rest.now ≤ 2 ^ 51 + 2 ^ 14
driving-offset links h hs at reader writer behind wrote offset moment piece p took d f = omega
    (arith, (d.driven f.0 f.1 f.2 f.4).offset_is, (f.3).0)

-- what is left has the moment that the whole had
pub left-moment : (left : Option Piece) (p : Piece) (moment : ℕ) → left ≡ Some p → HasMoment moment left →
    p.moment ≡ moment
left-moment left p moment is h = subst (HasMoment moment) is h

-- the same of the specs that the hops behind have now
pub fed-links : (links other : List Link) (was now : (ℕ → ℕ) → List ℕ → Type 0) (moment : ℕ) (piece held : List ℕ)
    (took : List ℕ → Type 0) → other ≡ links → held ≡ piece →
    RowFed other was now moment held took → RowFed links was now moment piece took
fed-links links other was now moment piece held took same e f =
    subst (λ (xs : List ℕ). RowFed links was now moment xs took) e
    (subst (λ (ls : List Link). RowFed ls was now moment held took) same f)

pub halted-links : (links other : List Link) (was : (ℕ → ℕ) → List ℕ → Type 0) (moment : ℕ) (piece held : List ℕ)
    (took : List ℕ → Type 0) → other ≡ links → held ≡ piece →
    RowHalted other was moment held took → RowHalted links was moment piece took
halted-links links other was moment piece held took same e f =
    subst (λ (xs : List ℕ). RowHalted links was moment xs took) e
    (subst (λ (ls : List Link). RowHalted ls was moment held took) same f)

pub may-links : (links other : List Link) (was : (ℕ → ℕ) → List ℕ → Type 0) (moment : ℕ) (piece held : List ℕ) →
    other ≡ links → held ≡ piece → MayFlow links was moment piece → MayFlow other was moment held
may-links links other was moment piece held same e f =
    subst (λ (ls : List Link). MayFlow ls was moment held) (sym same)
    (subst (λ (xs : List ℕ). MayFlow links was moment xs) (sym e) f)

-- no hop: the taker gets the bytes
pub none-fed : (links : List Link) (was now : List Hop) (moment : ℕ) (piece : List ℕ) (took : List ℕ → Type 0) →
    links ≡ [] → now ≡ [] → took piece → RowFed links (RowStands was) (RowStands now) moment piece took
none-fed links was now moment piece took none empty t =
    subst (λ (ls : List Link). RowFed ls (RowStands was) (RowStands now) moment piece took) (sym none)
    (subst (λ (hs : List Hop). RowFed [] (RowStands was) (RowStands hs) moment piece took) (sym empty)
    (record {
      given = piece;
      took_it = t;
      stands = λ moments bytes row have. tt;
      beyond = λ moments bytes row have.
          refl;
    }))

pub none-halted : (links : List Link) (was : (ℕ → ℕ) → List ℕ → Type 0) (moment : ℕ) (piece : List ℕ)
    (took : List ℕ → Type 0) → links ≡ [] → ((front : List ℕ) × IsPart front piece × took front) →
    RowHalted links was moment piece took
none-halted links was moment piece took none f =
    subst (λ (ls : List Link). RowHalted ls was moment piece took) (sym none)
    (record { given = f.0; took_it = f.2; front = λ moments bytes row have. part-behind bytes f.0 piece f.1 })

-- a row by its first hop

pub first-may : (hops : List Hop) (h : Hop) (behind : List Hop) (moment : ℕ) (piece : List ℕ) → hops ≡ h ∷ behind →
    MayFlow (map link_of hops) (RowStands hops) moment piece →
    MayFlow (link_of h ∷ map link_of behind) (RowOf h behind) moment piece
first-may hops h behind moment piece same f = subst
    (λ (hs : List Hop). MayFlow (map link_of hs) (RowStands hs) moment piece) same f

pub first-fed : (hops : List Hop) (h : Hop) (behind : List Hop) (now : (ℕ → ℕ) → List ℕ → Type 0) (moment : ℕ)
    (piece : List ℕ) (took : List ℕ → Type 0) → hops ≡ h ∷ behind →
    RowFed (link_of h ∷ map link_of behind) (RowOf h behind) now moment piece took →
    RowFed (map link_of hops) (RowStands hops) now moment piece took
first-fed hops h behind now moment piece took same f = subst
    (λ (hs : List Hop). RowFed (map link_of hs) (RowStands hs) now moment piece took) (sym same) f

pub first-halted : (hops : List Hop) (h : Hop) (behind : List Hop) (moment : ℕ) (piece : List ℕ)
    (took : List ℕ → Type 0) → hops ≡ h ∷ behind →
    RowHalted (link_of h ∷ map link_of behind) (RowOf h behind) moment piece took →
    RowHalted (map link_of hops) (RowStands hops) moment piece took
first-halted hops h behind moment piece took same f = subst
    (λ (hs : List Hop). RowHalted (map link_of hs) (RowStands hs) moment piece took) (sym same) f

pub no_links : (hops : List Hop) → length hops ≡ 0 → map link_of hops ≡ []
no_links [] e = refl
no_links (h ∷ hs) e = absurd (omega (arith, e))

-- moments are kept apart where hops are behind
pub apart-by : (hops : List Hop) (empty : Bool) → empty ≡ (length hops == 0) → IsApart (map link_of hops) (not empty)
apart-by [] empty e = tt
apart-by (h ∷ hs) empty e =
    let some : (length (h ∷ hs) == 0) ≡ false = grind (arith, nat_tests) in
    ap not (e ∙ some)
