-- Words are one command at most: names differ, and each command's words give its parts.
use Rattle.std.proofs.Common.{◌≡◌, ℕ, suc, Bool, true, false, if◌then◌else◌, List, [], ◌∷◌, ◌++◌, length, refl, sym}
use Rattle.std.proofs.Common.{◌∙◌, ◌⊎◌, inl, inr, ap, subst, arith, codes}
use Rattle.std.specs.Str.{bytes_eq}
use Rattle.std.proofs.lemmas.Fmt.{decimal_injective}
use Rattle.mb_carrier.specs.Word.{IsWordOf, IsSpec, AreSpecs}
use Rattle.mb_carrier.specs.declared.spec.Spec.{Spec}
use Rattle.mb_carrier.specs.declared.spec.Spec.TheVariants.{Din, Usb, Fire, Ble}
use Rattle.mb_carrier.proofs.WordLemmas.{one_spec, word-is_spec, first_letter, size-letter}
use Rattle.std.specs.Prelude.{Option, Some, None}
use Rattle.mb_words.specs.Command.{Command, Converting, Listing, Migrating, RecordingTape, PlayingFile, GuardingTape}
use Rattle.mb_words.specs.Command.{FilteringTape, RunningRig, Selftesting, CommandName, ToConvert, ToTrace, ToCheck}
use Rattle.mb_words.specs.Command.{ToMigrate, ToRecord, ToPlay, ToGuard, ToFilter, ToRun, ToSelftest, Means, AreWordsOf}
use Rattle.mb_words.specs.Command.{name_word}
use Rattle.mb_words.specs.Command.{command_name, asks_tally, specs_of, options_of}
use Rattle.mb_words.specs.Meaning.{front_of, end_of, converting}

pub heads : (x y : List ℕ) (xs ys : List (List ℕ)) → x ∷ xs ≡ y ∷ ys → x ≡ y
heads x y xs ys e = cc

pub tails : (x y : List ℕ) (xs ys : List (List ℕ)) → x ∷ xs ≡ y ∷ ys → xs ≡ ys
tails x y xs ys e = cc

-- words of specs

pub same_specs : (words : List (List ℕ)) (ss ts : List Spec) → AreWordsOf words ss → AreWordsOf words ts → ss ≡ ts
same_specs [] [] [] a b = refl
same_specs [] [] (t ∷ ts) a b = elim b [ ]
same_specs [] (s ∷ ss) ts a b = elim a [ ]
same_specs (w ∷ words) [] ts a b = elim a [ ]
same_specs (w ∷ words) (s ∷ ss) [] a b = elim b [ ]
same_specs (w ∷ words) (s ∷ ss) (t ∷ ts) a b =
    ap (λ (x : Spec). x ∷ ss) (one_spec w s t a.0 b.0)
    ∙ ap (λ (xs : List Spec). t ∷ xs) (same_specs words ss ts a.1 b.1)

pub as_many : (words : List (List ℕ)) (specs : List Spec) → AreWordsOf words specs → length words ≡ length specs
as_many [] [] a = refl
as_many [] (s ∷ specs) a = elim a [ ]
as_many (w ∷ words) [] a = elim a [ ]
as_many (w ∷ words) (s ∷ specs) a = ap (λ n. suc n) (as_many words specs a.1)

pub are_specs : (words : List (List ℕ)) (specs : List Spec) → AreWordsOf words specs → AreSpecs specs
are_specs [] [] a = tt
are_specs [] (s ∷ specs) a = elim a [ ]
are_specs (w ∷ words) [] a = elim a [ ]
are_specs (w ∷ words) (s ∷ specs) a = (word-is_spec w s a.0, are_specs words specs a.1)

-- the specs that a conversion writes

are_written : (between : List Spec) (last : Spec) → AreSpecs (between ++ last ∷ []) → AreSpecs between × IsSpec last
are_written [] last are = (tt, are.0)
are_written (s ∷ between) last are = let behind = are_written between last are.1 in ((are.0, behind.0), behind.1)

pub written_specs : (words : List (List ℕ)) (tally : Bool) (first : Spec) (between : List Spec) (last : Spec) →
    Means words (Converting tally first between last) → AreSpecs between × IsSpec last
written_specs words tally first between last m =
    are_written between last (are_specs m.arguments (first ∷ (between ++ last ∷ [])) m.are_specs).1

-- `tally` is no spec's word

not_tally : (s : Spec) → IsWordOf (codes "tally") s → ⊥
not_tally Din e = (let differ : 116 ≡ 100 = ap first_letter e in omega (arith, differ))
not_tally (Usb cable) e = (let differ : 116 ≡ 117 = ap first_letter e.1 in omega (arith, differ))
not_tally (Fire port) e = (let differ : 116 ≡ 102 = ap first_letter e.1 in omega (arith, differ))
not_tally (Ble size) e = (let differ : 116 ≡ 98 = size-letter (codes "tally") size e in omega (arith, differ))

-- whether a tally is asked

pub no_tally : (words rest : List (List ℕ)) (specs : List Spec) → words ≡ codes "tally" ∷ rest →
    AreWordsOf words specs → ⊥
no_tally [] rest specs e a = cc
no_tally (w ∷ words) rest [] e a = a
no_tally (w ∷ words) rest (s ∷ specs) e a = not_tally s
    (subst (λ (x : List ℕ). IsWordOf x s) (heads w (codes "tally") words rest e) a.0)

abbrev options : (tally : Bool) → List (List ℕ)
options tally = if tally then codes "tally" ∷ [] else []

-- the words behind a name tell whether a tally is asked, and the specs
same_behind : (v t : Bool) (words more : List (List ℕ)) (ss ts : List Spec) → options v ++ words ≡ options t ++ more →
    AreWordsOf words ss → AreWordsOf more ts → (v ≡ t) × (ss ≡ ts)
same_behind true true words more ss ts e m n =
    let same = tails (codes "tally") (codes "tally") words more e in
    (refl, same_specs more ss ts (subst (λ (ws : List (List ℕ)). AreWordsOf ws ss) same m) n)
same_behind false false words more ss ts e m n =
    (refl, same_specs more ss ts (subst (λ (ws : List (List ℕ)). AreWordsOf ws ss) e m) n)
same_behind true false words more ss ts e m n = absurd (no_tally more words ts (sym e) n)
same_behind false true words more ss ts e m n = absurd (no_tally words more ss e m)

-- a name is told by its word

abbrev named : List ℕ → Option CommandName
named w =
    if bytes_eq w (codes "convert") then Some ToConvert
    else (if bytes_eq w (codes "trace") then Some ToTrace
    else (if bytes_eq w (codes "check") then Some ToCheck
    else (if bytes_eq w (codes "migrate") then Some ToMigrate
    else (if bytes_eq w (codes "record") then Some ToRecord
    else (if bytes_eq w (codes "play") then Some ToPlay
    else (if bytes_eq w (codes "guard") then Some ToGuard
    else (if bytes_eq w (codes "filter") then Some ToFilter
    else (if bytes_eq w (codes "run") then Some ToRun
    else (if bytes_eq w (codes "selftest") then Some ToSelftest else None)))))))))

named_again : (n : CommandName) → named (name_word n) ≡ Some n
named_again ToConvert = refl
named_again ToTrace = refl
named_again ToCheck = refl
named_again ToMigrate = refl
named_again ToRecord = refl
named_again ToPlay = refl
named_again ToGuard = refl
named_again ToFilter = refl
named_again ToRun = refl
named_again ToSelftest = refl

same_some : (m n : CommandName) → Some m ≡ Some n → m ≡ n
same_some m n e = cc

pub same_name : (m n : CommandName) → name_word m ≡ name_word n → m ≡ n
same_name m n e = same_some m n (sym (named_again m) ∙ (ap named e ∙ named_again n))

-- a command is given by its name, its option and its specs

abbrev first_of : List Spec → Spec
first_of [] = Din
first_of (s ∷ specs) = s

abbrev rebuilt : CommandName → (tally : Bool) (specs : List Spec) → Command
rebuilt ToConvert tally specs = converting tally specs
rebuilt ToTrace tally specs = Listing true (first_of specs)
rebuilt ToCheck tally specs = Listing false (first_of specs)
rebuilt ToMigrate tally specs = Migrating
rebuilt ToRecord tally specs = RecordingTape (first_of specs)
rebuilt ToPlay tally specs = PlayingFile
rebuilt ToGuard tally specs = GuardingTape (first_of specs)
rebuilt ToFilter tally specs = FilteringTape [] (first_of specs)
rebuilt ToRun tally specs = RunningRig []
rebuilt ToSelftest tally specs = Selftesting 0 0

front_again : (s : Spec) (between : List Spec) (last : Spec) → front_of s (between ++ last ∷ []) ≡ s ∷ between
front_again s [] last = refl
front_again s (t ∷ between) last = ap (λ (specs : List Spec). s ∷ specs) (front_again t between last)

end_again : (s : Spec) (between : List Spec) (last : Spec) → end_of s (between ++ last ∷ []) ≡ last
end_again s [] last = refl
end_again s (t ∷ between) last = end_again t between last

converting_again : (tally : Bool) (first : Spec) (between : List Spec) (last : Spec) →
    converting {R = List ℕ} tally (first ∷ (between ++ last ∷ [])) ≡ Converting tally first between last
converting_again tally first [] last = refl
converting_again tally first (s ∷ between) last =
    ap (λ (specs : List Spec). Converting tally first specs (end_of s (between ++ last ∷ [])))
    (front_again s between last)
    ∙ ap (λ (t : Spec). Converting tally first (s ∷ between) t) (end_again s between last)

-- commands whose words are a name, perhaps an option, and specs
abbrev HasSpecs : Command → Type 0
HasSpecs (Converting tally first between last) = Unit {0}
HasSpecs (Listing traced s) = Unit {0}
HasSpecs Migrating = Unit {0}
HasSpecs (RecordingTape s) = Unit {0}
HasSpecs PlayingFile = Unit {0}
HasSpecs (GuardingTape s) = Unit {0}
HasSpecs (FilteringTape file s) = ⊥
HasSpecs (RunningRig file) = ⊥
HasSpecs (Selftesting start count) = ⊥

again : (c : Command) → HasSpecs c → rebuilt (command_name c) (asks_tally c) (specs_of c) ≡ c
again (Converting tally first between last) h = converting_again tally first between last
again (Listing true s) h = refl
again (Listing false s) h = refl
again Migrating h = refl
again (RecordingTape s) h = refl
again PlayingFile h = refl
again (GuardingTape s) h = refl
again (FilteringTape file s) h = absurd h
again (RunningRig file) h = absurd h
again (Selftesting start count) h = absurd h

options_are : (c : Command) → HasSpecs c → options_of c ≡ options (asks_tally c)
options_are (Converting tally first between last) h = refl
options_are (Listing traced s) h = refl
options_are Migrating h = refl
options_are (RecordingTape s) h = refl
options_are PlayingFile h = refl
options_are (GuardingTape s) h = refl
options_are (FilteringTape file s) h = absurd h
options_are (RunningRig file) h = absurd h
options_are (Selftesting start count) h = absurd h

-- the same words have the same name
names_agree : (words : List (List ℕ)) (c d : Command) → Means words c → Means words d →
    command_name c ≡ command_name d
names_agree words c d m n = same_name (command_name c) (command_name d)
    (heads _ _ _ _ (sym m.words_are ∙ n.words_are))

one_of_specs : (words : List (List ℕ)) (c d : Command) → HasSpecs c → HasSpecs d → Means words c → Means words d → c ≡ d
one_of_specs words c d h k m n =
    let same = sym m.words_are ∙ n.words_are in
    let behind = same_behind (asks_tally c) (asks_tally d) m.arguments n.arguments (specs_of c) (specs_of d)
    (ap (λ (ws : List (List ℕ)). ws ++ m.arguments) (sym (options_are c h))
    ∙ (tails _ _ _ _ same ∙ ap (λ (ws : List (List ℕ)). ws ++ n.arguments) (options_are d k)))
    m.are_specs n.are_specs in
    sym (again c h)
    ∙ (ap (λ (x : CommandName). rebuilt x (asks_tally c) (specs_of c)) (names_agree words c d m n)
    ∙ (ap (λ (t : Bool). rebuilt (command_name d) t (specs_of c)) behind.0
    ∙ (ap (λ (specs : List Spec). rebuilt (command_name d) (asks_tally d) specs) behind.1 ∙ again d k)))

-- the names of these commands
abbrev names_specs : CommandName → Bool
names_specs ToFilter = false
names_specs ToRun = false
names_specs ToSelftest = false
names_specs _ = true

specs_named : (c : Command) → HasSpecs c → names_specs (command_name c) ≡ true
specs_named (Converting tally first between last) h = refl
specs_named (Listing true s) h = refl
specs_named (Listing false s) h = refl
specs_named Migrating h = refl
specs_named (RecordingTape s) h = refl
specs_named PlayingFile h = refl
specs_named (GuardingTape s) h = refl
specs_named (FilteringTape file s) h = absurd h
specs_named (RunningRig file) h = absurd h
specs_named (Selftesting start count) h = absurd h

-- a self-test

same_selftest : (words : List (List ℕ)) (start count other others : ℕ) → Means words (Selftesting start count) →
    Means words (Selftesting other others) →
    ◌≡◌ {A = Command} (Selftesting start count) (Selftesting other others)
same_selftest words start count other others m n =
    let behind = tails _ _ _ _ (sym m.words_are ∙ n.words_are) in
    let starts : start ≡ other = decimal_injective start other (omega (arith, (m.built).0)) (omega (arith, (n.built).0))
    (heads _ _ _ _ behind) in
    let counts : count ≡ others =
    decimal_injective count others (omega (arith, (m.built).1)) (omega (arith, (n.built).1))
    (heads _ _ _ _ (tails _ _ _ _ behind)) in
    ap (λ (n : ℕ). Selftesting n count) starts ∙ ap (λ (n : ℕ). Selftesting other n) counts

-- a filter

same_filter : (words : List (List ℕ)) (file other : List ℕ) (s t : Spec) → Means words (FilteringTape file s) →
    Means words (FilteringTape other t) → FilteringTape file s ≡ FilteringTape other t
same_filter words file other s t m n =
    let behind = tails _ _ _ _ (sym m.words_are ∙ n.words_are) in
    let left = tails file other m.arguments n.arguments behind in
    ap (λ (x : List ℕ). FilteringTape x s) (heads file other m.arguments n.arguments behind)
    ∙ ap (λ (specs : List Spec). FilteringTape other (first_of specs))
    (same_specs n.arguments (s ∷ []) (t ∷ [])
    (subst (λ (ws : List (List ℕ)). AreWordsOf ws (s ∷ [])) left m.are_specs) n.are_specs)

-- a rig that is run

same_running : (words : List (List ℕ)) (file other : List ℕ) → Means words (RunningRig file) →
    Means words (RunningRig other) → ◌≡◌ {A = Command} (RunningRig file) (RunningRig other)
same_running words file other m n =
    ap (λ (x : List ℕ). RunningRig x)
    (heads file other m.arguments n.arguments (tails _ _ _ _ (sym m.words_are ∙ n.words_are)))

-- a command has specs, or is a filter, a run or a self-test

abbrev IsFilter : Command → Type 0
IsFilter c = (file : List ℕ) × (s : Spec) × (c ≡ FilteringTape file s)

abbrev IsRunning : Command → Type 0
IsRunning c = (file : List ℕ) × (c ≡ RunningRig file)

abbrev IsSelftest : Command → Type 0
IsSelftest c = (start : ℕ) × (count : ℕ) × (c ≡ Selftesting start count)

abbrev IsOther : Command → Type 0
IsOther c = IsFilter c ⊎ (IsRunning c ⊎ IsSelftest c)

form : (c : Command) → HasSpecs c ⊎ IsOther c
form (Converting tally first between last) = inl tt
form (Listing traced s) = inl tt
form Migrating = inl tt
form (RecordingTape s) = inl tt
form PlayingFile = inl tt
form (GuardingTape s) = inl tt
form (FilteringTape file s) = inr (inl (file, s, refl))
form (RunningRig file) = inr (inr (inl (file, refl)))
form (Selftesting start count) = inr (inr (inr (start, count, refl)))

other_named : (c : Command) → IsOther c → names_specs (command_name c) ≡ false
other_named c (inl f) = ap (λ (x : Command). names_specs (command_name x)) f.2
other_named c (inr (inl r)) = ap (λ (x : Command). names_specs (command_name x)) r.1
other_named c (inr (inr t)) = ap (λ (x : Command). names_specs (command_name x)) t.2

false-true : false ≡ true → ⊥
false-true e = cc

not_other : (words : List (List ℕ)) (c d : Command) → HasSpecs c → IsOther d → Means words c → Means words d → ⊥
not_other words c d h k m n =
    false-true (sym (other_named d k) ∙ (sym (ap names_specs (names_agree words c d m n)) ∙ specs_named c h))

other_names : (words : List (List ℕ)) (c d e f : Command) → c ≡ e → d ≡ f → Means words c → Means words d →
    (command_name e ≡ command_name f → ⊥) → ⊥
other_names words c d e f is are m n differ =
    differ (names_agree words e f (subst (Means words) is m) (subst (Means words) are n))

filter-run : ToFilter ≡ ToRun → ⊥
filter-run e = cc

filter-selftest : ToFilter ≡ ToSelftest → ⊥
filter-selftest e = cc

run-selftest : ToRun ≡ ToSelftest → ⊥
run-selftest e = cc

one_other : (words : List (List ℕ)) (c d : Command) → IsOther c → IsOther d → Means words c → Means words d → c ≡ d
one_other words c d (inl f) (inl g) m n =
    f.2 ∙ (same_filter words f.0 g.0 f.1 g.1 (subst (Means words) f.2 m) (subst (Means words) g.2 n) ∙ sym g.2)
one_other words c d (inl f) (inr (inl r)) m n = absurd (other_names words c d _ _ f.2 r.1 m n filter-run)
one_other words c d (inl f) (inr (inr t)) m n = absurd (other_names words c d _ _ f.2 t.2 m n filter-selftest)
one_other words c d (inr (inl r)) (inl f) m n = absurd (other_names words d c _ _ f.2 r.1 n m filter-run)
one_other words c d (inr (inl r)) (inr (inl q)) m n =
    r.1 ∙ (same_running words r.0 q.0 (subst (Means words) r.1 m) (subst (Means words) q.1 n) ∙ sym q.1)
one_other words c d (inr (inl r)) (inr (inr t)) m n = absurd (other_names words c d _ _ r.1 t.2 m n run-selftest)
one_other words c d (inr (inr t)) (inl f) m n = absurd (other_names words d c _ _ f.2 t.2 n m filter-selftest)
one_other words c d (inr (inr t)) (inr (inl r)) m n = absurd (other_names words d c _ _ r.1 t.2 n m run-selftest)
one_other words c d (inr (inr t)) (inr (inr u)) m n =
    t.2 ∙ (same_selftest words t.0 t.1 u.0 u.1 (subst (Means words) t.2 m) (subst (Means words) u.2 n) ∙ sym u.2)

pub one_command : (words : List (List ℕ)) (c d : Command) → Means words c → Means words d → c ≡ d
one_command words c d m n = by_form (form c) (form d)
  where
    by_form : (HasSpecs c ⊎ IsOther c) → (HasSpecs d ⊎ IsOther d) → c ≡ d
    by_form (inl h) (inl k) = one_of_specs words c d h k m n
    by_form (inl h) (inr k) = absurd (not_other words c d h k m n)
    by_form (inr h) (inl k) = absurd (not_other words d c k h n m)
    by_form (inr h) (inr k) = one_other words c d h k m n

-- the specs of a command that was read, by their parts
pub specs_again : (s : Spec) (specs : List Spec) → s ∷ specs ≡ front_of s specs ++ end_of s specs ∷ []
specs_again s [] = refl
specs_again s (t ∷ specs) = ap (λ (xs : List Spec). s ∷ xs) (specs_again t specs)

pub front_length : (s : Spec) (specs : List Spec) → length (front_of s specs) ≡ length specs
front_length s [] = refl
front_length s (t ∷ specs) = ap (λ n. suc n) (front_length t specs)
