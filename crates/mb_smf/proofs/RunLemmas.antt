-- Bytes of an F0 or F7 event, several at once.
use Rattle.std.proofs.Common.{◌≡◌, ℕ, ◌+◌, ◌-◌, ◌<◌, ◌≤◌, Bool, true, false, nat_lt, nat_le, if◌then◌else◌}
use Rattle.std.proofs.Common.{List, [], ◌∷◌, ◌++◌, length, take, drop, Option, None, refl, sym, ◌∙◌, ap, subst}
use Rattle.std.proofs.Common.{append_assoc, arith}
use Rattle.std.proofs.lemmas.Bool.{false≢true}
use Rattle.std.proofs.lemmas.Grind.{common_steps}
use Rattle.std.proofs.lemmas.Bool.Decides.{nat_tests}
use Rattle.mb_smf.specs.TrackTime.{TrackTime, track_moment}
use Rattle.mb_smf.specs.declared.file_place.FilePlace.{FilePlace}
use Rattle.mb_smf.specs.declared.file_place.FilePlace.TheVariants as at
use Rattle.mb_smf.specs.declared.event_kind.EventKind.{EventKind}
use Rattle.mb_smf.specs.declared.event_kind.EventKind.TheVariants as kind
use Rattle.mb_smf.specs.declared.file_state.FileState.{FileState}
use Rattle.mb_smf.specs.declared.fault.SmfWhy.TheVariants as why
use Rattle.mb_smf.specs.FileStep.{FileStep, fails}
use Rattle.mb_smf.specs.TrackSteps.{event_ended, gives_bytes, in_chunk}
use Rattle.mb_smf.specs.Smf.{behind_given, file_step, given_at, moved, smf_from}
use Rattle.mb_smf.specs.declared.reader.SmfPart.{SmfPart}
use Rattle.mb_smf.specs.declared.reader.SmfPart.TheVariants as part
use Rattle.mb_smf.specs.SmfReading.{LentFrom, SmfState, SmfTakes, behind_run, run_room, run_room_at}
use Rattle.mb_smf.proofs.PassLemmas.{Passes, passes-both, passes-step, state_at}

-- one byte, by whether it is the event's last and whether the chunk goes on
abbrev given_by_last : (last : Bool) → EventKind → (o n l e : ℕ) (r : Option ℕ) (t : TrackTime) (b : ℕ) → FileStep
given_by_last last k o n l e r t b = record {
  given = b ∷ [];
  now =
      if last then event_ended (state_at o (at.Bytes k) n l (e - 1) r t) k
      else state_at o (at.Bytes k) n l (e - 1) r t;
}

abbrev went_on : (o : ℕ) → (room : Bool) → FileStep → FileStep
went_on o room step = moved o (
    if room then record { given = step.given; now = record step.now { left = step.now.left - 1 } }
    else fails step.now why.Track
    )

abbrev behind_by : (last : Bool) → EventKind → (o n l e : ℕ) (r : Option ℕ) (t : TrackTime) → FileState
behind_by last k o n l e r t =
    state_at (o + 1) (if last then at.Delta 0 else at.Bytes k) (if last then 0 else n) (l - 1) (e - 1) r t

abbrev StepIs : Bool → EventKind → Type 0
StepIs q k = (o n l e : ℕ) (r : Option ℕ) (t : TrackTime) (b : ℕ) → nat_lt 1 l ≡ true →
    moved o (in_chunk (given_by_last q k o n l e r t b))
    ≡ record { given = b ∷ []; now = behind_by q k o n l e r t }

step-is : (q : Bool) (k : EventKind) → gives_bytes k ≡ true → StepIs q k
step-is true kind.Sysex c =
    λ o n l e r t b h. ap (λ (q : Bool). went_on o q (given_by_last true kind.Sysex o n l e r t b)) h
step-is false kind.Sysex c =
    λ o n l e r t b h. ap (λ (q : Bool). went_on o q (given_by_last false kind.Sysex o n l e r t b)) h
step-is true kind.Escape c =
    λ o n l e r t b h. ap (λ (q : Bool). went_on o q (given_by_last true kind.Escape o n l e r t b)) h
step-is false kind.Escape c =
    λ o n l e r t b h. ap (λ (q : Bool). went_on o q (given_by_last false kind.Escape o n l e r t b)) h
step-is q kind.Tempo c = absurd (false≢true c)
step-is q kind.End c = absurd (false≢true c)
step-is q kind.Other c = absurd (false≢true c)

one-is : (k : EventKind) → gives_bytes k ≡ true → (o n l e : ℕ) (r : Option ℕ) (t : TrackTime) (b : ℕ) →
    nat_lt 1 l ≡ true → file_step (state_at o (at.Bytes k) n l e r t) b
    ≡ record { given = b ∷ []; now = behind_by (nat_le e 1) k o n l e r t }
one-is kind.Sysex c o n l e r t b h = step-is (nat_le e 1) kind.Sysex refl o n l e r t b h
one-is kind.Escape c o n l e r t b h = step-is (nat_le e 1) kind.Escape refl o n l e r t b h
one-is kind.Tempo c o n l e r t b h = absurd (false≢true c)
one-is kind.End c o n l e r t b h = absurd (false≢true c)
one-is kind.Other c o n l e r t b h = absurd (false≢true c)

abbrev run_end : (last : Bool) → EventKind → (o n l e : ℕ) (r : Option ℕ) (t : TrackTime) → FileState
run_end last k o n l e r t = state_at o (if last then at.Delta 0 else at.Bytes k) (if last then 0 else n) l e r t

abbrev RunIs : (s : FileState) (bytes : List ℕ) (now : FileState) → Type 0
RunIs s bytes now = Passes s bytes (given_at (track_moment s.clock) bytes) now

pub run-all : (k : EventKind) → gives_bytes k ≡ true → (b : ℕ) (bs : List ℕ) (o n l e : ℕ) (r : Option ℕ)
    (t : TrackTime) → length (b ∷ bs) ≤ e → length (b ∷ bs) < l →
    RunIs (state_at o (at.Bytes k) n l e r t) (b ∷ bs)
    (behind_run (state_at o (at.Bytes k) n l e r t) (length (b ∷ bs)))
run-all k c b [] o n l e r t within_event within_chunk =
    let h : nat_lt 1 l ≡ true = grind (arith, nat_tests) in
    let is : file_step (state_at o (at.Bytes k) n l e r t) b
    ≡ record { given = b ∷ []; now = behind_by (nat_le e 1) k o n l e r t } = one-is k c o n l e r t b h in
    passes-step (state_at o (at.Bytes k) n l e r t) b
    (record { given = b ∷ []; now = behind_by (nat_le e 1) k o n l e r t }) is
run-all k c b (x ∷ bs) o n l e r t within_event within_chunk =
    let h : nat_lt 1 l ≡ true = grind (arith, nat_tests) in
    let q : nat_le e 1 ≡ false = grind (arith, nat_tests) in
    let now : FileState = state_at (o + 1) (at.Bytes k) n (l - 1) (e - 1) r t in
    let first : file_step (state_at o (at.Bytes k) n l e r t) b ≡ record { given = b ∷ []; now = now } =
    one-is k c o n l e r t b h
    ∙ ap (λ (z : Bool). record { given = b ∷ []; now = behind_by z k o n l e r t }) q in
    let rest : RunIs now (x ∷ bs) (behind_run now (length (x ∷ bs))) =
    run-all k c x bs (o + 1) n (l - 1) (e - 1) r t (omega (arith, within_event)) (omega (arith, within_chunk)) in
    let last_same : nat_le (e - 1) (length (x ∷ bs)) ≡ nat_le e (length (b ∷ x ∷ bs)) = grind (arith, nat_tests) in
    let offset_same : o + 1 + length (x ∷ bs) ≡ o + length (b ∷ x ∷ bs) = omega arith in
    let left_same : l - 1 - length (x ∷ bs) ≡ l - length (b ∷ x ∷ bs) = omega arith in
    let event_same : e - 1 - length (x ∷ bs) ≡ e - length (b ∷ x ∷ bs) = omega arith in
    let whole : ℕ = length (b ∷ x ∷ bs) in
    let ends : behind_run now (length (x ∷ bs)) ≡ behind_run (state_at o (at.Bytes k) n l e r t) whole =
    ap (λ (z : Bool). run_end z k (o + 1 + length (x ∷ bs)) n (l - 1 - length (x ∷ bs)) (e - 1 - length (x ∷ bs)) r
    t) last_same ∙
    (ap (λ z. run_end (nat_le e whole) k z n (l - 1 - length (x ∷ bs)) (e - 1 - length (x ∷ bs)) r t) offset_same ∙
    (ap (λ z. run_end (nat_le e whole) k (o + whole) n z (e - 1 - length (x ∷ bs)) r t) left_same ∙
    ap (λ z. run_end (nat_le e whole) k (o + whole) n (l - whole) z r t) event_same)) in
    passes-both (state_at o (at.Bytes k) n l e r t) now (behind_run (state_at o (at.Bytes k) n l e r t) whole)
    (b ∷ []) (x ∷ bs) (given_at (track_moment t) (b ∷ [])) (given_at (track_moment t) (x ∷ bs))
    (passes-step (state_at o (at.Bytes k) n l e r t) b (record { given = b ∷ []; now = now }) first)
    (subst (RunIs now (x ∷ bs)) ends rest)

-- with room for them
run-at : (p : FilePlace) (bs : List ℕ) (o n l e : ℕ) (r : Option ℕ) (t : TrackTime) → 0 < length bs →
    length bs ≤ run_room_at p e l →
    RunIs (state_at o p n l e r t) bs (behind_run (state_at o p n l e r t) (length bs))
run-at p [] o n l e r t some fits = absurd (omega (arith, some))
run-at (at.Bytes kind.Sysex) (b ∷ bs) o n l e r t some fits =
    run-all kind.Sysex refl b bs o n l e r t (omega (arith, fits)) (omega (arith, fits))
run-at (at.Bytes kind.Escape) (b ∷ bs) o n l e r t some fits =
    run-all kind.Escape refl b bs o n l e r t (omega (arith, fits)) (omega (arith, fits))
run-at (at.Bytes kind.Tempo) (b ∷ bs) o n l e r t some fits = absurd (omega (arith, fits))
run-at (at.Bytes kind.End) (b ∷ bs) o n l e r t some fits = absurd (omega (arith, fits))
run-at (at.Bytes kind.Other) (b ∷ bs) o n l e r t some fits = absurd (omega (arith, fits))
run-at (at.Magic i) (b ∷ bs) o n l e r t some fits = absurd (omega (arith, fits))
run-at (at.HeaderLength i) (b ∷ bs) o n l e r t some fits = absurd (omega (arith, fits))
run-at (at.Kind i) (b ∷ bs) o n l e r t some fits = absurd (omega (arith, fits))
run-at (at.Division i) (b ∷ bs) o n l e r t some fits = absurd (omega (arith, fits))
run-at at.Rest (b ∷ bs) o n l e r t some fits = absurd (omega (arith, fits))
run-at (at.Name i q) (b ∷ bs) o n l e r t some fits = absurd (omega (arith, fits))
run-at (at.ChunkLength i q) (b ∷ bs) o n l e r t some fits = absurd (omega (arith, fits))
run-at (at.Delta i) (b ∷ bs) o n l e r t some fits = absurd (omega (arith, fits))
run-at at.First (b ∷ bs) o n l e r t some fits = absurd (omega (arith, fits))
run-at (at.Data i) (b ∷ bs) o n l e r t some fits = absurd (omega (arith, fits))
run-at at.MetaType (b ∷ bs) o n l e r t some fits = absurd (omega (arith, fits))
run-at (at.Length i k) (b ∷ bs) o n l e r t some fits = absurd (omega (arith, fits))
run-at at.Ended (b ∷ bs) o n l e r t some fits = absurd (omega (arith, fits))
run-at (at.Faulted w) (b ∷ bs) o n l e r t some fits = absurd (omega (arith, fits))

length-take-front : (n : ℕ) (xs : List ℕ) → n ≤ length xs → length (take n xs) ≡ n
length-take-front n xs short = grind (arith, common_steps)

pub take_drop : (n : ℕ) (xs : List ℕ) → take n xs ++ drop n xs ≡ xs
take_drop n xs = grind (arith, common_steps)

-- what a call that lends a run takes
pub takes-run : (old : SmfState) (s new : FileState) (q : Option ℕ) (input bytes left : List ℕ) (count moment : ℕ) →
    record { file = s; owed = q } ≡ old → old.owed ≡ None → count ≤ length input → 0 < count → count ≤ run_room s →
    bytes ≡ take count input → left ≡ drop count input → new ≡ behind_run s count → moment ≡ track_moment s.clock →
    SmfTakes old (record { file = new; owed = q }) input left (given_at moment bytes)
takes-run old s new q input bytes left count moment is none short some fits bytes_are left_is new_is moment_is =
    let q_none : q ≡ None = ap (λ (r : SmfState). r.owed) is ∙ none in
    let e : record { file = s; owed = None } ≡ old =
    ap (λ (z : Option ℕ). record { file = s; owed = z }) (sym q_none) ∙ is in
    let len : length bytes ≡ count = ap length bytes_are ∙ length-take-front count input short in
    let run : RunIs s bytes (behind_run s (length bytes)) =
    run-at s.place bytes s.offset s.number s.left s.event s.running s.clock (omega (arith, len, some))
    (omega (arith, len, fits)) in
    let taken : SmfTakes (record { file = s; owed = None }) (record { file = behind_run s count; owed = None }) input
    left (given_at moment bytes) =
    record {
      taken = bytes;
      front = sym (ap (λ z. z ++ left) bytes_are
          ∙ (ap (λ z. take count input ++ z) left_is ∙ take_drop count input));
      rest = λ more.
          run.reads more ∙
          (ap (λ m. behind_given (given_at m bytes) (smf_from (behind_run s (length bytes)) more)) (sym moment_is) ∙
          ap (λ m. behind_given (given_at moment bytes) (smf_from (behind_run s m) more)) len);
      state = run.state ∙ ap (behind_run s) len;
    } in
    subst (λ (r : SmfState). SmfTakes r (record { file = new; owed = q }) input left (given_at moment bytes)) e
    (subst (λ (z : FileState). SmfTakes (record { file = s; owed = None }) (record { file = z; owed = q }) input left
    (given_at moment bytes)) (sym new_is)
    (subst (λ (z : Option ℕ). SmfTakes (record { file = s; owed = None })
    (record { file = behind_run s count; owed = z }) input left (given_at moment bytes)) (sym q_none) taken))

-- lent from a piece of which a front was taken before
pub lent-behind : (p : SmfPart) (start taken input left : List ℕ) → start ≡ taken ++ input → LentFrom input left p →
    LentFrom start left p
lent-behind (part.Byte moment byte) start taken input left is lent = tt
lent-behind (part.Run moment bytes) start taken input left is lent = (
  taken ++ lent.0,
  is
      ∙ (ap (λ z. taken ++ z) lent.1 ∙ sym (append_assoc taken lent.0 (bytes.now ++ left))),
)
