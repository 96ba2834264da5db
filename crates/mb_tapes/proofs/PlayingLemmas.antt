-- Steps of a gatherer, and of a file that is played.
use Rattle.std.proofs.Common.{◌≡◌, ℕ, List, [], ◌∷◌, ◌++◌, Option, Some, None, is_some, refl}
use Rattle.std.proofs.Common.{sym}
use Rattle.std.proofs.Common.{◌∙◌, ap, subst, append_assoc, append-nil}
use Rattle.std.proofs.lemmas.Bool.{false≢true}
use Rattle.std.proofs.lemmas.List.{map-append}
use Rattle.mb_frames.specs.Gathered.{TimedByte}
use Rattle.mb_frames.specs.Gathering.{Piece, ended_by, with_byte}
use Rattle.mb_held.specs.Held.{Holds}
use Rattle.mb_held.proofs.HeldLemmas.{Fronted, fronted-then, fronted-within, holds-start, holds-then}
use Rattle.mb_smf.specs.TrackTime.{TrackTime}
use Rattle.mb_smf.specs.declared.fault.SmfFault.{SmfFault}
use Rattle.mb_smf.specs.declared.file_place.FilePlace.{FilePlace}
use Rattle.mb_smf.specs.declared.file_place.FilePlace.TheVariants as at
use Rattle.mb_smf.specs.declared.file_state.FileState.{FileState}
use Rattle.mb_smf.specs.Smf.{SmfRead, behind_given, file_behind, file_fault, file_fault_at, given_at, smf_from}
use Rattle.mb_smf.specs.SmfReading.{SmfState, SmfTakes, given_ahead, read_behind}
use Rattle.mb_smf.proofs.PassLemmas.{state_at}
use Rattle.mb_smf.proofs.TakesLemmas.{file-append, takes-both, takes-none}
use Rattle.mb_tapes.specs.Played.{ended_records, piece_behind}
use Rattle.mb_tapes.specs.Playing.{HasRead, Played}
use Rattle.mb_tapes.specs.declared.playing.Playing.{Playing}

pub ended-append : (p : Piece) (xs ys : List TimedByte) →
    ended_records p (xs ++ ys) ≡ ended_records p xs ++ ended_records (piece_behind p xs) ys
ended-append p [] ys = refl
ended-append p (x ∷ xs) ys =
    ap (λ zs. ended_by p x ++ zs) (ended-append (with_byte p x) xs ys)
    ∙ sym (append_assoc (ended_by p x) (ended_records (with_byte p x) xs)
    (ended_records (piece_behind (with_byte p x) xs) ys))

pub piece-append : (p : Piece) (xs ys : List TimedByte) →
    piece_behind p (xs ++ ys) ≡ piece_behind (piece_behind p xs) ys
piece-append p [] ys = refl
piece-append p (x ∷ xs) ys = piece-append (with_byte p x) xs ys

pub played-start : (p : Piece) (held : List ℕ) (took : List ℕ → Type 0) → took [] → Played p p [] held held took
played-start p held took none = record {
  piece = refl;
  holds = subst (λ (xs : List ℕ). Holds took xs held) (sym (append-nil held)) (holds-start took held none);
}

-- what two steps end
both-end : (was mid : Piece) (xs ys : List TimedByte) (held : List ℕ) → mid ≡ piece_behind was xs →
    (held ++ ended_records was xs) ++ ended_records mid ys ≡ held ++ ended_records was (xs ++ ys)
both-end was mid xs ys held is =
    append_assoc held (ended_records was xs) (ended_records mid ys)
    ∙ (ap (λ p. held ++ (ended_records was xs ++ ended_records p ys)) is
    ∙ ap (λ zs. held ++ zs) (sym (ended-append was xs ys)))

pub played-then : (was mid now : Piece) (xs ys : List TimedByte) (held kept new : List ℕ)
    (first second both : List ℕ → Type 0) → ((x y : List ℕ) → first x → second y → both (x ++ y)) →
    Played was mid xs held kept first → Played mid now ys kept new second → Played was now (xs ++ ys) held new both
played-then was mid now xs ys held kept new first second both joined f g = record {
  piece = g.piece ∙ (ap (λ p. piece_behind p ys) f.piece ∙ sym (piece-append was xs ys));
  holds =
      subst (λ (zs : List ℕ). Holds both zs new) (both-end was mid xs ys held f.piece)
      (holds-then first second both (held ++ ended_records was xs) (ended_records mid ys) kept new joined f.holds
      g.holds);
}

-- the second was refused; more would have followed
pub played-refused : (was mid : Piece) (xs ys more : List TimedByte) (held kept : List ℕ)
    (first second both : List ℕ → Type 0) → ((x y : List ℕ) → first x → second y → both (x ++ y)) →
    Played was mid xs held kept first → Fronted second (kept ++ ended_records mid ys) →
    Fronted both (held ++ ended_records was ((xs ++ ys) ++ more))
played-refused was mid xs ys more held kept first second both joined f front =
    let here : List ℕ = held ++ ended_records was (xs ++ ys) in
    let rest : List ℕ = ended_records (piece_behind was (xs ++ ys)) more in
    fronted-within both here (held ++ ended_records was ((xs ++ ys) ++ more))
    (subst (Fronted both) (both-end was mid xs ys held f.piece)
    (fronted-then first second both (held ++ ended_records was xs) (ended_records mid ys) kept joined f.holds front)) (
      rest,
      ap (λ zs. held ++ zs) (ended-append was (xs ++ ys) more) ∙ sym (append_assoc held (ended_records was (xs ++ ys))
          rest),
    )

-- bytes of one moment, one by one

pub record RunGone (was now : Piece) (moment : ℕ) (bytes rest held kept : List ℕ) (took : List ℕ → Type 0) : Type 0
  where
    pub taken : List ℕ
    pub front : bytes ≡ taken ++ rest
    pub gone : Played was now (given_at moment taken) held kept took

pub run-start : (p : Piece) (moment : ℕ) (bytes held : List ℕ) (took : List ℕ → Type 0) → took [] →
    RunGone p p moment bytes bytes held held took
run-start p moment bytes held took none =
    record { taken = []; front = refl; gone = played-start p held took none }

given-more : (moment : ℕ) (xs ys : List ℕ) → given_at moment (xs ++ ys) ≡ given_at moment xs ++ given_at moment ys
given-more moment xs ys = map-append (λ b. record { moment = moment; byte = b }) xs ys

pub run-step : (was mid now : Piece) (moment b : ℕ) (bytes rest others held kept new : List ℕ)
    (first second both : List ℕ → Type 0) → ((x y : List ℕ) → first x → second y → both (x ++ y)) →
    rest ≡ b ∷ others → RunGone was mid moment bytes rest held kept first →
    Played mid now (given_at moment (b ∷ [])) kept new second → RunGone was now moment bytes others held new both
run-step was mid now moment b bytes rest others held kept new first second both joined is r g = record {
  taken = r.taken ++ b ∷ [];
  front = r.front ∙ (ap (λ zs. r.taken ++ zs) is ∙ sym (append_assoc r.taken (b ∷ []) others));
  gone =
      subst (λ (zs : List TimedByte). Played was now zs held new both) (sym (given-more moment r.taken (b ∷ [])))
      (played-then was mid now (given_at moment r.taken) (given_at moment (b ∷ [])) held kept new first second both
      joined r.gone g);
}

pub run-refused : (was mid : Piece) (moment b : ℕ) (bytes rest others held kept : List ℕ)
    (first second both : List ℕ → Type 0) → ((x y : List ℕ) → first x → second y → both (x ++ y)) →
    rest ≡ b ∷ others → RunGone was mid moment bytes rest held kept first →
    Fronted second (kept ++ ended_records mid (given_at moment (b ∷ []))) →
    Fronted both (held ++ ended_records was (given_at moment bytes))
run-refused was mid moment b bytes rest others held kept first second both joined is r front =
    let all : (given_at moment r.taken ++ given_at moment (b ∷ [])) ++ given_at moment others
    ≡ given_at moment bytes =
    append_assoc (given_at moment r.taken) (given_at moment (b ∷ [])) (given_at moment others)
    ∙ (sym (given-more moment r.taken (b ∷ others))
    ∙ ap (given_at moment) (ap (λ zs. r.taken ++ zs) (sym is) ∙ sym r.front)) in
    subst (λ (zs : List TimedByte). Fronted both (held ++ ended_records was zs)) all
    (played-refused was mid (given_at moment r.taken) (given_at moment (b ∷ [])) (given_at moment others) held kept
    first second both joined r.gone front)

pub run-over : (was now : Piece) (moment : ℕ) (bytes rest held kept : List ℕ) (took : List ℕ → Type 0) → rest ≡ [] →
    RunGone was now moment bytes rest held kept took → Played was now (given_at moment bytes) held kept took
run-over was now moment bytes rest held kept took none r =
    subst (λ (zs : List ℕ). Played was now (given_at moment zs) held kept took)
    (sym (r.front ∙ (ap (λ zs. r.taken ++ zs) none ∙ append-nil r.taken))) r.gone

-- a file, part by part

pub record Going (was now : SmfState) (from to : Piece) (piece rest held kept : List ℕ) (took : List ℕ → Type 0) :
    Type 0 where
  pub told : List TimedByte
  pub takes : SmfTakes was now piece rest told
  pub gone : Played from to told held kept took

pub going-start : (s : SmfState) (p : Piece) (piece held : List ℕ) (took : List ℕ → Type 0) → took [] →
    Going s s p p piece piece held held took
going-start s p piece held took none =
    record { told = []; takes = takes-none s piece; gone = played-start p held took none }

pub going-step : (was mid now : SmfState) (from to next : Piece) (piece rest left held kept new : List ℕ)
    (news : List TimedByte) (first second both : List ℕ → Type 0) →
    ((x y : List ℕ) → first x → second y → both (x ++ y)) → Going was mid from to piece rest held kept first →
    SmfTakes mid now rest left news → Played to next news kept new second →
    Going was now from next piece left held new both
going-step was mid now from to next piece rest left held kept new news first second both joined g t p = record {
  told = g.told ++ news;
  takes = takes-both was mid now piece rest left g.told news g.takes t;
  gone = played-then from to next g.told news held kept new first second both joined g.gone p;
}

-- what is given of the whole piece
all-given : (was now : SmfState) (piece left : List ℕ) (told : List TimedByte) → was.owed ≡ None →
    SmfTakes was now piece left told → (smf_from was.file piece).given ≡ told ++ (read_behind now left).given
all-given was now piece left told none t =
    sym (ap (λ (o : Option ℕ). (behind_given (given_ahead was.file o) (smf_from was.file piece)).given) none)
    ∙ (ap (λ z. (read_behind was z).given) t.front ∙ ap (λ (r : SmfRead). r.given) (t.rest left))

pub going-refused : (was mid now : SmfState) (from to : Piece) (piece rest left held kept : List ℕ)
    (news : List TimedByte) (first second both : List ℕ → Type 0) →
    ((x y : List ℕ) → first x → second y → both (x ++ y)) → was.owed ≡ None →
    Going was mid from to piece rest held kept first → SmfTakes mid now rest left news →
    Fronted second (kept ++ ended_records to news) →
    Fronted both (held ++ ended_records from (smf_from was.file piece).given)
going-refused was mid now from to piece rest left held kept news first second both joined none g t front =
    let all : SmfTakes was now piece left (g.told ++ news) = takes-both was mid now piece rest left g.told news g.takes
    t in
    subst (λ (zs : List TimedByte). Fronted both (held ++ ended_records from zs))
    (sym (all-given was now piece left (g.told ++ news) none all))
    (played-refused from to g.told news (read_behind now left).given held kept first second both joined g.gone front)

-- where nothing more is given of the piece
pub record Over (now : SmfState) (left : List ℕ) : Type 0 where
  pub owed : now.owed ≡ None
  pub none : (smf_from now.file left).given ≡ []
  pub state : file_behind now.file left ≡ now.file

pub over-end : (now : SmfState) (left : List ℕ) → now.owed ≡ None → left ≡ [] → Over now left
over-end now left owed empty = record {
  owed = owed;
  none = ap (λ z. (smf_from now.file z).given) empty;
  state = ap (file_behind now.file) empty;
}

-- nothing follows a fault
no-more : (o n l e : ℕ) (r : Option ℕ) (t : TrackTime) (p : FilePlace) (fault : SmfFault) →
    file_fault_at o p ≡ Some fault → (left : List ℕ) → ((smf_from (state_at o p n l e r t) left).given ≡ []) ×
    (file_behind (state_at o p n l e r t) left ≡ state_at o p n l e r t)
no-more o n l e r t (at.Faulted w) fault is [] = (refl, refl)
no-more o n l e r t (at.Faulted w) fault is (b ∷ left) = no-more o n l e r t (at.Faulted w) fault is left
no-more o n l e r t (at.Magic i) fault is left = absurd (false≢true (ap is_some is))
no-more o n l e r t (at.HeaderLength i) fault is left = absurd (false≢true (ap is_some is))
no-more o n l e r t (at.Kind i) fault is left = absurd (false≢true (ap is_some is))
no-more o n l e r t (at.Division i) fault is left = absurd (false≢true (ap is_some is))
no-more o n l e r t at.Rest fault is left = absurd (false≢true (ap is_some is))
no-more o n l e r t (at.Name i q) fault is left = absurd (false≢true (ap is_some is))
no-more o n l e r t (at.ChunkLength i q) fault is left = absurd (false≢true (ap is_some is))
no-more o n l e r t (at.Delta i) fault is left = absurd (false≢true (ap is_some is))
no-more o n l e r t at.First fault is left = absurd (false≢true (ap is_some is))
no-more o n l e r t (at.Data i) fault is left = absurd (false≢true (ap is_some is))
no-more o n l e r t at.MetaType fault is left = absurd (false≢true (ap is_some is))
no-more o n l e r t (at.Length i k) fault is left = absurd (false≢true (ap is_some is))
no-more o n l e r t (at.Bytes k) fault is left = absurd (false≢true (ap is_some is))
no-more o n l e r t at.Ended fault is left = absurd (false≢true (ap is_some is))

pub over-fault : (now : SmfState) (left : List ℕ) (fault : SmfFault) → now.owed ≡ None →
    file_fault now.file ≡ Some fault → Over now left
over-fault now left fault owed is =
    let s : FileState = now.file in
    let none = no-more s.offset s.number s.left s.event s.running s.clock s.place fault is left in
    record { owed = owed; none = none.0; state = none.1 }

pub going-over : (was now : Playing) (piece rest held kept : List ℕ) (took : List ℕ → Type 0) →
    was.file.owed ≡ None → now.begun ≡ was.begun →
    Going was.file now.file was.gather now.gather piece rest held kept took → Over now.file rest →
    HasRead was now piece held kept took
going-over was now piece rest held kept took none begun g o =
    let empty : (read_behind now.file rest).given ≡ [] =
    ap (λ (w : Option ℕ). given_ahead now.file.file w ++ (smf_from now.file.file rest).given) o.owed ∙ o.none in
    let told : g.told ≡ (smf_from was.file.file piece).given =
    sym (all-given was.file now.file piece rest g.told none g.takes
    ∙ (ap (λ zs. g.told ++ zs) empty ∙ append-nil g.told)) in
    let file : now.file.file ≡ file_behind was.file.file piece =
    sym (ap (file_behind was.file.file) (g.takes).front
    ∙ (file-append was.file.file (g.takes).taken rest
    ∙ (ap (λ s. file_behind s rest) (g.takes).state ∙ o.state))) in
    record {
      file =
          ap (λ (s : FileState). record { file = s; owed = now.file.owed }) file
          ∙ ap (λ (w : Option ℕ). record { file = file_behind was.file.file piece; owed = w }) o.owed;
      gather = (g.gone).piece ∙ ap (piece_behind was.gather) told;
      begun = begun;
      holds = subst (λ (zs : List TimedByte). Holds took (held ++ ended_records was.gather zs) kept) told
          (g.gone).holds;
    }

-- an answer that gives nothing
pub going-none : (was mid now : SmfState) (from to : Piece) (piece rest left held kept : List ℕ)
    (took : List ℕ → Type 0) → Going was mid from to piece rest held kept took → SmfTakes mid now rest left [] →
    Going was now from to piece left held kept took
going-none was mid now from to piece rest left held kept took g t = record {
  told = g.told ++ [];
  takes = takes-both was mid now piece rest left g.told [] g.takes t;
  gone =
      subst (λ (zs : List TimedByte). Played from to zs held kept took) (sym (append-nil g.told)) g.gone;
}
