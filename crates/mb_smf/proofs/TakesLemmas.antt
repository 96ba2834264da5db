-- What a step takes and gives.
use Rattle.std.proofs.Common.{◌≡◌, ℕ, List, [], ◌∷◌, ◌++◌, Option, Some, None, refl, sym, ◌∙◌, ap, subst}
use Rattle.std.proofs.Common.{append_assoc}
use Rattle.mb_frames.specs.Gathered.{TimedByte}
use Rattle.mb_smf.specs.TrackTime.{track_moment}
use Rattle.mb_smf.specs.declared.file_state.FileState.{FileState}
use Rattle.mb_smf.specs.Smf.{SmfRead, behind_given, file_behind, file_step, fresh_file, given_at, smf, smf_from}
use Rattle.mb_smf.specs.SmfReading.{SmfState, SmfStands, SmfTakes, fresh_smf, given_ahead, read_behind}

pub behind-twice : (a b : List TimedByte) (r : SmfRead) →
    behind_given a (behind_given b r) ≡ behind_given (a ++ b) r
behind-twice a b r = ap (λ z. record { given = z; fault = r.fault }) (sym (append_assoc a b r.given))

pub file-append : (s : FileState) (bytes more : List ℕ) →
    file_behind s (bytes ++ more) ≡ file_behind (file_behind s bytes) more
file-append s [] more = refl
file-append s (b ∷ bytes) more = file-append (file_step s b).now bytes more

pub stands-fresh : SmfStands fresh_smf [] []
stands-fresh = record { rest = λ more. refl; state = refl }

pub takes-none : (r : SmfState) (input : List ℕ) → SmfTakes r r input input []
takes-none r input = record { taken = []; front = refl; rest = λ more. refl; state = refl }

-- one step behind another
pub takes-both : (a b c : SmfState) (input between left : List ℕ) (g h : List TimedByte) →
    SmfTakes a b input between g → SmfTakes b c between left h → SmfTakes a c input left (g ++ h)
takes-both a b c input between left g h first second = record {
  taken = first.taken ++ second.taken;
  front = first.front
      ∙ (ap (λ z. first.taken ++ z) second.front ∙ sym (append_assoc first.taken second.taken left));
  rest = λ more.
      ap (read_behind a) (append_assoc first.taken second.taken more) ∙
      (first.rest (second.taken ++ more)
      ∙ (ap (behind_given g) (second.rest more) ∙ behind-twice g h (read_behind c more)));
  state = file-append a.file first.taken second.taken
      ∙ (ap (λ s. file_behind s second.taken) first.state ∙ second.state);
}

pub stands-takes : (old new : SmfState) (input left : List ℕ) (given : List TimedByte) (bytes : List ℕ)
    (before : List TimedByte) → SmfStands old bytes before → SmfTakes old new input left given →
    (taken : List ℕ) × (input ≡ taken ++ left) × SmfStands new (bytes ++ taken) (before ++ given)
stands-takes old new input left given bytes before s t = (
  t.taken,
  t.front,
  record {
    rest = λ more.
        ap smf (append_assoc bytes t.taken more) ∙
        (s.rest (t.taken ++ more)
        ∙ (ap (behind_given before) (t.rest more) ∙ behind-twice before given (read_behind new more)));
    state = file-append fresh_file bytes t.taken ∙ (ap (λ z. file_behind z t.taken) s.state ∙ t.state);
  },
)

-- a byte is taken: of what it gives, the first is answered, and what is left is ahead
takes-byte : (old : FileState) (new : SmfState) (b : ℕ) (left : List ℕ) (given : List ℕ) (answer : List TimedByte) →
    new.file ≡ (file_step old b).now → given ≡ (file_step old b).given →
    given_at (track_moment new.file.clock) given ≡ answer ++ given_ahead new.file new.owed →
    SmfTakes (record { file = old; owed = None }) new (b ∷ left) left answer
takes-byte old new b left given answer now_is given_is split = record {
  taken = b ∷ [];
  front = refl;
  rest = λ more.
      let moment : ℕ = track_moment (file_step old b).now.clock in
      let first : given_at moment (file_step old b).given ≡ answer ++ given_ahead new.file new.owed =
      ap (λ z. given_at moment z) (sym given_is)
      ∙ (ap (λ (s : FileState). given_at (track_moment s.clock) given) (sym now_is) ∙ split) in
      ap (λ z. behind_given z (smf_from (file_step old b).now more)) first ∙
      (sym (behind-twice answer (given_ahead new.file new.owed) (smf_from (file_step old b).now more)) ∙
      ap (λ (s : FileState). behind_given answer (behind_given (given_ahead new.file new.owed) (smf_from s more)))
      (sym now_is));
  state = sym now_is;
}

-- one byte, by what it gives

takes-from : (old : SmfState) (s : FileState) (o : Option ℕ) (new : SmfState) (b : ℕ) (left given : List ℕ)
    (answer : List TimedByte) → record { file = s; owed = o } ≡ old → old.owed ≡ None →
    new.file ≡ (file_step s b).now → given ≡ (file_step s b).given →
    given_at (track_moment new.file.clock) given ≡ answer ++ given_ahead new.file new.owed →
    SmfTakes old new (b ∷ left) left answer
takes-from old s o new b left given answer is none now_is given_is split =
    let o_none : o ≡ None = ap (λ (r : SmfState). r.owed) is ∙ none in
    let e : record { file = s; owed = None } ≡ old =
    ap (λ (z : Option ℕ). record { file = s; owed = z }) (sym o_none) ∙ is in
    subst (λ (r : SmfState). SmfTakes r new (b ∷ left) left answer) e
    (takes-byte s new b left given answer now_is given_is split)

pub takes-nothing : (old : SmfState) (s new : FileState) (o : Option ℕ) (b : ℕ) →
    record { file = s; owed = o } ≡ old → old.owed ≡ None → new ≡ (file_step s b).now →
    [] ≡ (file_step s b).given → (left : List ℕ) →
    SmfTakes old (record { file = new; owed = o }) (b ∷ left) left []
takes-nothing old s new o b is none now_is given_is left =
    takes-from old s o (record { file = new; owed = o }) b left [] [] is none now_is given_is
    (ap (given_ahead new) (sym (ap (λ (r : SmfState). r.owed) is ∙ none)))

pub takes-one : (old : SmfState) (s new : FileState) (o : Option ℕ) (b x moment : ℕ) →
    record { file = s; owed = o } ≡ old → old.owed ≡ None → new ≡ (file_step s b).now →
    x ∷ [] ≡ (file_step s b).given → moment ≡ track_moment new.clock → (left : List ℕ) →
    SmfTakes old (record { file = new; owed = o }) (b ∷ left) left (given_at moment (x ∷ []))
takes-one old s new o b x moment is none now_is given_is moment_is left =
    takes-from old s o (record { file = new; owed = o }) b left (x ∷ []) (given_at moment (x ∷ [])) is none now_is
    given_is (ap (λ n. given_at n (x ∷ [])) (sym moment_is)
    ∙ ap (λ z. given_at moment (x ∷ []) ++ given_ahead new z) (sym (ap (λ (r : SmfState). r.owed) is ∙ none)))

pub takes-two : (old : SmfState) (s new : FileState) (o : Option ℕ) (b x y moment : ℕ) →
    record { file = s; owed = o } ≡ old → old.owed ≡ None → new ≡ (file_step s b).now →
    x ∷ y ∷ [] ≡ (file_step s b).given → moment ≡ track_moment new.clock → (left : List ℕ) →
    SmfTakes old (record { file = new; owed = Some y }) (b ∷ left) left (given_at moment (x ∷ []))
takes-two old s new o b x y moment is none now_is given_is moment_is left =
    takes-from old s o (record { file = new; owed = Some y }) b left (x ∷ y ∷ []) (given_at moment (x ∷ [])) is none
    now_is given_is
    (ap (λ n. given_at n (x ∷ []) ++ given_at (track_moment new.clock) (y ∷ [])) (sym moment_is))

pub takes-more : (a b c : SmfState) (input between left : List ℕ) (given : List TimedByte) →
    SmfTakes a b input between [] → SmfTakes b c between left given → SmfTakes a c input left given
takes-more a b c input between left given first second = takes-both a b c input between left [] given first second

pub takes-behind : (a b c : SmfState) (input between : List ℕ) (x : ℕ) (left : List ℕ) (given : List TimedByte) →
    SmfTakes a b input between [] → between ≡ x ∷ left → SmfTakes b c (x ∷ left) left given →
    SmfTakes a c input left given
takes-behind a b c input between x left given first is second =
    takes-more a b c input (x ∷ left) left given (subst (λ z. SmfTakes a b input z []) is first) second

-- the byte that was ahead
pub takes-owed : (old : SmfState) (s : FileState) (o : Option ℕ) (b moment : ℕ) (input : List ℕ) →
    record { file = s; owed = o } ≡ old → o ≡ Some b → moment ≡ track_moment s.clock →
    SmfTakes old (record { file = s; owed = None }) input input (given_at moment (b ∷ []))
takes-owed old s o b moment input is owed_is moment_is =
    let e : record { file = s; owed = Some b } ≡ old =
    ap (λ (z : Option ℕ). record { file = s; owed = z }) (sym owed_is) ∙ is in
    subst (λ (r : SmfState). SmfTakes r (record { file = s; owed = None }) input input (given_at moment (b ∷ []))) e
    (record {
      taken = [];
      front = refl;
      rest = λ more. ap (λ m. behind_given (given_at m (b ∷ [])) (smf_from s more)) (sym moment_is);
      state = refl;
    })
