-- What is read of words, place by place.
use Rattle.std.proofs.Common.{◌≡◌, ℕ, zero, suc, ◌+◌, ◌≤◌, Bool, true, false, List, [], ◌∷◌, ◌++◌, length, drop, refl}
use Rattle.std.proofs.Common.{sym, ◌∙◌, ap, subst, arith, codes, decimal, length-append, append_assoc}
use Rattle.std.specs.Prelude.{slice_get, Option, Some, None, IfNone}
use Rattle.std.proofs.lemmas.List.{length-drop, append-nil}
use Rattle.mb_carrier.specs.Word.{IsWordOf}
use Rattle.mb_carrier.specs.declared.spec.Spec.{Spec}
use Rattle.mb_words.specs.Command.{Command, Converting, Listing, Migrating, RecordingTape, PlayingFile, GuardingTape}
use Rattle.mb_words.specs.Command.{FilteringTape, RunningRig, Selftesting, CommandName, ToConvert, ToTrace, ToCheck}
use Rattle.mb_words.specs.Command.{ToMigrate, ToRecord, ToPlay, ToGuard, ToFilter, ToRun, ToSelftest, Means, AreWordsOf}
use Rattle.mb_words.specs.Command.{IsAlone, IsBuilt, name_word, listing_name, command_name, name_of, options_of, specs_of}
use Rattle.mb_words.specs.Meaning.{converting, place_of_specs}
use Rattle.mb_words.proofs.CommandLemmas.{as_many, no_tally, same_name, specs_again, front_length}

-- places

some-same : (x y : List ℕ) → Some x ≡ Some y → x ≡ y
some-same x y e = cc

pub begins : (words : List (List ℕ)) (w : List ℕ) → slice_get words 0 ≡ Some w → words ≡ w ∷ drop 1 words
begins [] w e = cc
begins (x ∷ words) w e = ap (λ (y : List ℕ). y ∷ words) (some-same x w e)

pub begins_twice : (words : List (List ℕ)) (w v : List ℕ) → slice_get words 0 ≡ Some w → slice_get words 1 ≡ Some v →
    words ≡ w ∷ v ∷ drop 2 words
begins_twice [] w v e f = cc
begins_twice (x ∷ words) w v e f = ap (λ (y : List ℕ). y ∷ words) (some-same x w e)
    ∙ ap (λ (xs : List (List ℕ)). w ∷ xs) (begins words v f)

none_left : (words : List (List ℕ)) → length words ≡ 0 → words ≡ []
none_left [] e = refl
none_left (w ∷ words) e = absurd (omega (arith, e))

single : (words : List (List ℕ)) (w : List ℕ) → length words ≡ 1 → slice_get words 0 ≡ Some w → words ≡ w ∷ []
single [] w one e = absurd (omega (arith, one))
single (x ∷ []) w one e = ap (λ (y : List ℕ). y ∷ []) (some-same x w e)
single (x ∷ y ∷ words) w one e = absurd (omega (arith, one))

pub drop-at : (words : List (List ℕ)) (at : ℕ) (w : List ℕ) → slice_get words at ≡ Some w →
    drop at words ≡ w ∷ drop (suc at) words
drop-at [] at w e = cc
drop-at (x ∷ words) zero w e = ap (λ (y : List ℕ). y ∷ words) (some-same x w e)
drop-at (x ∷ words) (suc at) w e = drop-at words at w e

pub drop-next : (words : List (List ℕ)) (at : ℕ) (w : List ℕ) → slice_get words at ≡ Some w →
    drop at words ≡ w ∷ drop (at + 1) words
drop-next words at w e =
    let next : suc at ≡ at + 1 = omega arith in
    drop-at words at w e ∙ ap (λ (n : ℕ). w ∷ drop n words) next

-- words of specs, one more at a time

pub words-push : (words : List (List ℕ)) (specs : List Spec) (w : List ℕ) (s : Spec) → AreWordsOf words specs →
    IsWordOf w s → AreWordsOf (words ++ w ∷ []) (specs ++ s ∷ [])
words-push [] [] w s a b = (b, tt)
words-push [] (t ∷ specs) w s a b = elim a [ ]
words-push (x ∷ words) [] w s a b = elim a [ ]
words-push (x ∷ words) (t ∷ specs) w s a b = (a.0, words-push words specs w s a.1 b)

pub word_in : (before rest : List (List ℕ)) (w : List ℕ) (specs : List Spec) → AreWordsOf (before ++ w ∷ rest) specs →
    (s : Spec) × IsWordOf w s
word_in [] rest w [] a = elim a [ ]
word_in (x ∷ before) rest w [] a = elim a [ ]
word_in [] rest w (s ∷ specs) a = (s, a.0)
word_in (x ∷ before) rest w (s ∷ specs) a = word_in before rest w specs a.1

-- names

first_word : (words : List (List ℕ)) (w : List ℕ) (c : Command) → Means words c → slice_get words 0 ≡ Some w →
    w ≡ name_of c
first_word words w c m e = some-same w (name_of c) (sym e ∙ ap (λ (xs : List (List ℕ)). slice_get xs 0) m.words_are)

pub no_words : (words : List (List ℕ)) (c : Command) → Means words c → length words ≡ 0 → ⊥
no_words words c m e = omega (arith, e, ap length m.words_are)

pub name-at : (words : List (List ℕ)) (n : CommandName) (c : Command) → slice_get words 0 ≡ Some (name_word n) →
    Means words c → command_name c ≡ n
name-at words n c e m = sym (same_name n (command_name c) (first_word words (name_word n) c m e))

-- the name is none of these
pub no_name : (words : List (List ℕ)) (w : List ℕ) (c : Command) → slice_get words 0 ≡ Some w →
    ((n : CommandName) → w ≡ name_word n → ⊥) → Means words c → ⊥
no_name words w c e none m = none (command_name c) (first_word words w c m e)

pub no_name-by : (w : List ℕ) →
    (w ≡ codes "convert" → ⊥) → (w ≡ codes "trace" → ⊥) → (w ≡ codes "check" → ⊥) → (w ≡ codes "migrate" → ⊥) →
    (w ≡ codes "record" → ⊥) → (w ≡ codes "play" → ⊥) → (w ≡ codes "guard" → ⊥) → (w ≡ codes "filter" → ⊥) →
    (w ≡ codes "run" → ⊥) → (w ≡ codes "selftest" → ⊥) →
    (n : CommandName) → w ≡ name_word n → ⊥
no_name-by w convert trace check migrate record_tape play guard filter run selftest ToConvert = convert
no_name-by w convert trace check migrate record_tape play guard filter run selftest ToTrace = trace
no_name-by w convert trace check migrate record_tape play guard filter run selftest ToCheck = check
no_name-by w convert trace check migrate record_tape play guard filter run selftest ToMigrate = migrate
no_name-by w convert trace check migrate record_tape play guard filter run selftest ToRecord = record_tape
no_name-by w convert trace check migrate record_tape play guard filter run selftest ToPlay = play
no_name-by w convert trace check migrate record_tape play guard filter run selftest ToGuard = guard
no_name-by w convert trace check migrate record_tape play guard filter run selftest ToFilter = filter
no_name-by w convert trace check migrate record_tape play guard filter run selftest ToRun = run
no_name-by w convert trace check migrate record_tape play guard filter run selftest ToSelftest = selftest

-- a name and specs

pub plain-means : (words : List (List ℕ)) (c : Command) → slice_get words 0 ≡ Some (name_of c) → options_of c ≡ [] →
    AreWordsOf (drop 1 words) (specs_of c) → IsBuilt c → Means words c
plain-means words c name none are built =
    record {
      arguments = drop 1 words;
      words_are = begins words (name_of c) name
          ∙ ap (λ (xs : List (List ℕ)). name_of c ∷ (xs ++ drop 1 words)) (sym none);
      are_specs = are;
      built = built;
    }

pub plain-only : (words : List (List ℕ)) (c : Command) → options_of c ≡ [] → Means words c →
    AreWordsOf (drop 1 words) (specs_of c)
plain-only words c none m =
    subst (λ (xs : List (List ℕ)). AreWordsOf xs (specs_of c))
    (sym (ap (drop 1) m.words_are ∙ ap (λ (xs : List (List ℕ)). xs ++ m.arguments) none)) m.are_specs

pub one_word : (words : List (List ℕ)) (at : ℕ) (w : List ℕ) (s : Spec) → length words ≡ at + 1 →
    slice_get words at ≡ Some w → IsWordOf w s → AreWordsOf (drop at words) (s ∷ [])
one_word words at w s last word is =
    subst (λ (xs : List (List ℕ)). AreWordsOf xs (s ∷ []))
    (sym (drop-next words at w word
    ∙ ap (λ (xs : List (List ℕ)). w ∷ xs)
    (none_left (drop (at + 1) words) (omega (arith, last, length-drop (at + 1) words)))))
    (is, tt)

pub word_count : (words : List (List ℕ)) (at : ℕ) (s : Spec) → AreWordsOf (drop at words) (s ∷ []) →
    length words ≡ at + 1
word_count words at s are =
    let one = as_many (drop at words) (s ∷ []) are in omega (arith, one, length-drop at words)

pub word-is : (words : List (List ℕ)) (at : ℕ) (w : List ℕ) (s : Spec) → slice_get words at ≡ Some w →
    AreWordsOf (drop at words) (s ∷ []) → IsWordOf w s
word-is words at w s e are =
    (subst (λ (xs : List (List ℕ)). AreWordsOf xs (s ∷ [])) (drop-at words at w e) are).0

-- a command that is its name alone

pub alone-means : (words : List (List ℕ)) (c : Command) → slice_get words 0 ≡ Some (name_of c) → IsAlone c →
    length words ≡ 1 → Means words c
alone-means words c name alone one =
    plain-means words c name alone.no_options
    (subst (λ (xs : List (List ℕ)). AreWordsOf xs (specs_of c))
    (sym (none_left (drop 1 words) (omega (arith, one, length-drop 1 words))))
    (subst (AreWordsOf []) (sym alone.no_specs) tt)) alone.built

-- the names of commands that are it alone
abbrev is_alone_name : CommandName → Bool
is_alone_name ToConvert = false
is_alone_name ToTrace = false
is_alone_name ToCheck = false
is_alone_name ToMigrate = true
is_alone_name ToRecord = false
is_alone_name ToPlay = true
is_alone_name ToGuard = false
is_alone_name ToFilter = false
is_alone_name ToRun = false
is_alone_name ToSelftest = false

alone-name : (c : Command) → IsAlone c → is_alone_name (command_name c) ≡ true
alone-name (Converting tally first between last) a = (let e = a.no_specs in cc)
alone-name (Listing traced s) a = (let e = a.no_specs in cc)
alone-name Migrating a = refl
alone-name (RecordingTape s) a = (let e = a.no_specs in cc)
alone-name PlayingFile a = refl
alone-name (GuardingTape s) a = (let e = a.no_specs in cc)
alone-name (FilteringTape file s) a = (let e = a.no_specs in cc)
alone-name (RunningRig file) a = (let e = a.no_options in cc)
alone-name (Selftesting start count) a = (let e = a.no_options in cc)

alone-length : (words : List (List ℕ)) (c : Command) → is_alone_name (command_name c) ≡ true → Means words c →
    length words ≡ 1
alone-length words (Converting tally first between last) e m = cc
alone-length words (Listing true s) e m = cc
alone-length words (Listing false s) e m = cc
alone-length words Migrating e m =
    let none = as_many m.arguments [] m.are_specs in omega (arith, ap length m.words_are, none)
alone-length words (RecordingTape s) e m = cc
alone-length words PlayingFile e m =
    let none = as_many m.arguments [] m.are_specs in omega (arith, ap length m.words_are, none)
alone-length words (GuardingTape s) e m = cc
alone-length words (FilteringTape file s) e m = cc
alone-length words (RunningRig file) e m = cc
alone-length words (Selftesting start count) e m = cc

pub only_alone : (words : List (List ℕ)) (c d : Command) → slice_get words 0 ≡ Some (name_of d) → IsAlone d →
    Means words c → length words ≡ 1
only_alone words c d name alone m =
    alone-length words c (ap is_alone_name (name-at words (command_name d) c name m) ∙ alone-name d alone) m

-- the names of commands with one spec and nothing else
abbrev pub has_lone_spec : CommandName → Bool
has_lone_spec ToConvert = false
has_lone_spec ToTrace = true
has_lone_spec ToCheck = true
has_lone_spec ToMigrate = false
has_lone_spec ToRecord = true
has_lone_spec ToPlay = false
has_lone_spec ToGuard = true
has_lone_spec ToFilter = false
has_lone_spec ToRun = false
has_lone_spec ToSelftest = false

lone-spec : (words : List (List ℕ)) (c : Command) → has_lone_spec (command_name c) ≡ true → Means words c →
    (s : Spec) × AreWordsOf (drop 1 words) (s ∷ [])
lone-spec words (Converting tally first between last) e m = cc
lone-spec words (Listing traced s) e m = (s, plain-only words (Listing traced s) refl m)
lone-spec words Migrating e m = cc
lone-spec words (RecordingTape s) e m = (s, plain-only words (RecordingTape s) refl m)
lone-spec words PlayingFile e m = cc
lone-spec words (GuardingTape s) e m = (s, plain-only words (GuardingTape s) refl m)
lone-spec words (FilteringTape file s) e m = cc
lone-spec words (RunningRig file) e m = cc
lone-spec words (Selftesting start count) e m = cc

pub only_lone_spec : (words : List (List ℕ)) (c : Command) (n : CommandName) → has_lone_spec n ≡ true →
    slice_get words 0 ≡ Some (name_word n) → Means words c → (s : Spec) × AreWordsOf (drop 1 words) (s ∷ [])
only_lone_spec words c n lone name m = lone-spec words c (ap has_lone_spec (name-at words n c name m) ∙ lone) m

pub listing-lone : (traced : Bool) → has_lone_spec (listing_name traced) ≡ true
listing-lone true = refl
listing-lone false = refl

-- a filter

pub filter-means : (words : List (List ℕ)) (file w : List ℕ) (s : Spec) → length words ≡ 3 →
    slice_get words 0 ≡ Some (codes "filter") → slice_get words 1 ≡ Some file → slice_get words 2 ≡ Some w →
    IsWordOf w s → Means words (FilteringTape file s)
filter-means words file w s three name first second is =
    record {
      arguments = drop 2 words;
      words_are = begins_twice words (codes "filter") file name first;
      are_specs = one_word words 2 w s three second is;
      built = tt;
    }

pub only_filter : (words : List (List ℕ)) (c : Command) → slice_get words 0 ≡ Some (codes "filter") →
    Means words c → (s : Spec) × AreWordsOf (drop 2 words) (s ∷ [])
only_filter words c e m = by_name c (name-at words ToFilter c e m) m
  where
    by_name : (d : Command) → command_name d ≡ ToFilter → Means words d → (s : Spec) × AreWordsOf (drop 2 words) (s ∷ [])
    by_name (FilteringTape file s) same n =
        (s, subst (λ (xs : List (List ℕ)). AreWordsOf xs (s ∷ [])) (sym (ap (drop 2) n.words_are)) n.are_specs)
    by_name (RunningRig file) same n = cc
    by_name (Selftesting start count) same n = cc
    by_name (Converting tally first between last) same n = cc
    by_name (Listing true s) same n = cc
    by_name (Listing false s) same n = cc
    by_name Migrating same n = cc
    by_name (RecordingTape s) same n = cc
    by_name PlayingFile same n = cc
    by_name (GuardingTape s) same n = cc

-- a rig that is run

pub running-means : (words : List (List ℕ)) (file : List ℕ) → length words ≡ 2 →
    slice_get words 0 ≡ Some (codes "run") → slice_get words 1 ≡ Some file → Means words (RunningRig file)
running-means words file two name first =
    record {
      arguments = [];
      words_are = begins_twice words (codes "run") file name first
          ∙ ap (λ (xs : List (List ℕ)). codes "run" ∷ file ∷ xs)
          (none_left (drop 2 words) (omega (arith, two, length-drop 2 words)));
      are_specs = tt;
      built = tt;
    }

pub only_running : (words : List (List ℕ)) (c : Command) → slice_get words 0 ≡ Some (codes "run") →
    Means words c → length words ≡ 2
only_running words c e m = by_name c (name-at words ToRun c e m) m
  where
    by_name : (d : Command) → command_name d ≡ ToRun → Means words d → length words ≡ 2
    by_name (RunningRig file) same n =
        let none = as_many n.arguments [] n.are_specs in omega (arith, ap length n.words_are, none)
    by_name (Converting tally first between last) same n = cc
    by_name (Listing true s) same n = cc
    by_name (Listing false s) same n = cc
    by_name Migrating same n = cc
    by_name (RecordingTape s) same n = cc
    by_name PlayingFile same n = cc
    by_name (GuardingTape s) same n = cc
    by_name (FilteringTape file s) same n = cc
    by_name (Selftesting start count) same n = cc

-- a self-test

pub selftest-means : (words : List (List ℕ)) (v w : List ℕ) (start count : ℕ) → length words ≡ 3 →
    slice_get words 0 ≡ Some (codes "selftest") → slice_get words 1 ≡ Some v → slice_get words 2 ≡ Some w →
    v ≡ decimal start → w ≡ decimal count → start ≤ 2147483647 → count ≤ 1000000 →
    Means words (Selftesting start count)
selftest-means words v w start count three name first second start_is count_is low few =
    record {
      arguments = [];
      words_are = begins_twice words (codes "selftest") v name first
          ∙ (ap (λ (xs : List (List ℕ)). codes "selftest" ∷ v ∷ xs)
          (drop-at words 2 w second
          ∙ ap (λ (xs : List (List ℕ)). w ∷ xs) (none_left (drop 3 words) (omega (arith, three, length-drop 3 words))))
          ∙ (ap (λ (x : List ℕ). codes "selftest" ∷ x ∷ w ∷ []) start_is
          ∙ ap (λ (x : List ℕ). codes "selftest" ∷ decimal start ∷ x ∷ []) count_is));
      are_specs = tt;
      built = (omega (arith, low), few);
    }

pub record IsSelftest (words : List (List ℕ)) : Type 0 where
  pub three : length words ≡ 3
  pub start : ℕ
  pub count : ℕ
  pub low : start ≤ 2147483647
  pub few : count ≤ 1000000
  pub first : (w : List ℕ) → slice_get words 1 ≡ Some w → w ≡ decimal start
  pub second : (w : List ℕ) → slice_get words 2 ≡ Some w → w ≡ decimal count

none_behind : (words : List (List ℕ)) → AreWordsOf words [] → words ≡ []
none_behind [] are = refl
none_behind (w ∷ words) are = elim are [ ]

is_selftest : (words : List (List ℕ)) (start count : ℕ) → Means words (Selftesting start count) → IsSelftest words
is_selftest words start count m =
    let all : words ≡ codes "selftest" ∷ decimal start ∷ decimal count ∷ [] =
    m.words_are ∙ ap (λ (xs : List (List ℕ)). codes "selftest" ∷ decimal start ∷ decimal count ∷ xs)
    (none_behind m.arguments m.are_specs) in
    record {
      three = ap length all;
      start = start;
      count = count;
      low = omega (arith, (m.built).0);
      few = (m.built).1;
      first = λ w e. some-same w (decimal start) (sym e ∙ ap (λ (xs : List (List ℕ)). slice_get xs 1) all);
      second = λ w e. some-same w (decimal count) (sym e ∙ ap (λ (xs : List (List ℕ)). slice_get xs 2) all);
    }

pub only_selftest : (words : List (List ℕ)) (c : Command) → slice_get words 0 ≡ Some (codes "selftest") →
    Means words c → IsSelftest words
only_selftest words c e m = by_name c (name-at words ToSelftest c e m) m
  where
    by_name : (d : Command) → command_name d ≡ ToSelftest → Means words d → IsSelftest words
    by_name (RunningRig file) same n = cc
    by_name (Selftesting start count) same n = is_selftest words start count n
    by_name (Converting tally first between last) same n = cc
    by_name (Listing true s) same n = cc
    by_name (Listing false s) same n = cc
    by_name Migrating same n = cc
    by_name (RecordingTape s) same n = cc
    by_name PlayingFile same n = cc
    by_name (GuardingTape s) same n = cc
    by_name (FilteringTape file s) same n = cc

-- a conversion

pub conversion-means : (words : List (List ℕ)) (tally : Bool) (specs : List Spec) →
    slice_get words 0 ≡ Some (codes "convert") → (tally ≡ true → slice_get words 1 ≡ Some (codes "tally")) →
    AreWordsOf (drop (place_of_specs tally) words) specs → 2 ≤ length specs → length specs ≤ 10 →
    Means words (converting tally specs)
conversion-means words true [] name option are some few = absurd (omega (arith, some))
conversion-means words true (first ∷ []) name option are some few = absurd (omega (arith, some))
conversion-means words true (first ∷ s ∷ specs) name option are some few =
    record {
      arguments = drop 2 words;
      words_are = begins_twice words (codes "convert") (codes "tally") name (option refl);
      are_specs = subst (AreWordsOf (drop 2 words)) (ap (λ (xs : List Spec). first ∷ xs) (specs_again s specs)) are;
      built = omega (arith, few, front_length s specs);
    }
conversion-means words false [] name option are some few = absurd (omega (arith, some))
conversion-means words false (first ∷ []) name option are some few = absurd (omega (arith, some))
conversion-means words false (first ∷ s ∷ specs) name option are some few =
    record {
      arguments = drop 1 words;
      words_are = begins words (codes "convert") name;
      are_specs = subst (AreWordsOf (drop 1 words)) (ap (λ (xs : List Spec). first ∷ xs) (specs_again s specs)) are;
      built = omega (arith, few, front_length s specs);
    }

pub record IsConversion (words : List (List ℕ)) (tally : Bool) : Type 0 where
  pub specs : List Spec
  pub are : AreWordsOf (drop (place_of_specs tally) words) specs
  pub some : 2 ≤ length specs
  pub few : length specs ≤ 10

is_conversion : (words : List (List ℕ)) (tally v : Bool) (first : Spec) (between : List Spec) (last : Spec) →
    (tally ≡ true → slice_get words 1 ≡ Some (codes "tally")) →
    (tally ≡ false → slice_get words 1 ≡ Some (codes "tally") → ⊥) →
    Means words (Converting v first between last) → IsConversion words tally
is_conversion words true true first between last asked unasked m =
    record {
      specs = first ∷ (between ++ last ∷ []);
      are = subst (λ (xs : List (List ℕ)). AreWordsOf xs (first ∷ (between ++ last ∷ [])))
          (sym (ap (drop 2) m.words_are)) m.are_specs;
      some = omega (arith, length-append between (last ∷ []));
      few = omega (arith, length-append between (last ∷ []), m.built);
    }
is_conversion words false false first between last asked unasked m =
    record {
      specs = first ∷ (between ++ last ∷ []);
      are = subst (λ (xs : List (List ℕ)). AreWordsOf xs (first ∷ (between ++ last ∷ [])))
          (sym (ap (drop 1) m.words_are)) m.are_specs;
      some = omega (arith, length-append between (last ∷ []));
      few = omega (arith, length-append between (last ∷ []), m.built);
    }
is_conversion words true false first between last asked unasked m =
    absurd (no_tally m.arguments (drop 1 m.arguments) (first ∷ (between ++ last ∷ []))
    (begins m.arguments (codes "tally") (sym (ap (λ (xs : List (List ℕ)). slice_get xs 1) m.words_are)
    ∙ asked refl)) m.are_specs)
is_conversion words false true first between last asked unasked m = absurd
    (unasked refl (ap (λ (xs : List (List ℕ)). slice_get xs 1) m.words_are))

pub only_conversion : (words : List (List ℕ)) (tally : Bool) (c : Command) →
    slice_get words 0 ≡ Some (codes "convert") →
    (tally ≡ true → slice_get words 1 ≡ Some (codes "tally")) →
    (tally ≡ false → slice_get words 1 ≡ Some (codes "tally") → ⊥) → Means words c → IsConversion words tally
only_conversion words tally c e asked unasked m = by_name c (name-at words ToConvert c e m) m
  where
    by_name : (d : Command) → command_name d ≡ ToConvert → Means words d → IsConversion words tally
    by_name (Converting v first between last) same n = is_conversion words tally v first between last asked unasked n
    by_name (Listing true s) same n = cc
    by_name (Listing false s) same n = cc
    by_name Migrating same n = cc
    by_name (RecordingTape s) same n = cc
    by_name PlayingFile same n = cc
    by_name (GuardingTape s) same n = cc
    by_name (FilteringTape file s) same n = cc
    by_name (RunningRig file) same n = cc
    by_name (Selftesting start count) same n = cc

pub none_some : {A : Type 0} (r : Option A) (x : A) → r ≡ None → r ≡ Some x → ⊥
none_some r x e f = let same = sym e ∙ f in cc

pub if_none : {A : Type 0} (r : Option A) (claim : Type 0) → r ≡ None → claim → IfNone r claim
if_none r claim e h = subst (λ x. IfNone x claim) (sym e) h

-- words are read one by one: those behind a start, of which these are left, gave these specs
pub record ReadSoFar (words left : List (List ℕ)) (specs : List Spec) : Type 0 where
  pub before : List (List ℕ)
  pub cut : words ≡ before ++ left
  pub are : AreWordsOf before specs

pub read-none : (words : List (List ℕ)) (specs : List Spec) → specs ≡ [] → ReadSoFar words words specs
read-none words specs e = record { before = []; cut = refl; are = subst (AreWordsOf []) (sym e) tt }

pub read-more : (words left rest : List (List ℕ)) (specs now : List Spec) (w : List ℕ) (s : Spec) →
    ReadSoFar words left specs → left ≡ w ∷ rest → IsWordOf w s → now ≡ specs ++ s ∷ [] → ReadSoFar words rest now
read-more words left rest specs now w s r next is e =
    record {
      before = r.before ++ w ∷ [];
      cut = r.cut ∙ (ap (λ (xs : List (List ℕ)). r.before ++ xs) next ∙ sym (append_assoc r.before (w ∷ []) rest));
      are = subst (AreWordsOf (r.before ++ w ∷ [])) (sym e) (words-push r.before specs w s r.are is);
    }

pub read-never : (words left rest : List (List ℕ)) (specs all : List Spec) (w : List ℕ) {r : Option Spec} →
    ReadSoFar words left specs → left ≡ w ∷ rest → AreWordsOf words all →
    r ≡ None → ((s : Spec) → IsWordOf w s → r ≡ Some s) → ⊥
read-never words left rest specs all w r next are none only =
    let s = word_in r.before rest w all (subst (λ (xs : List (List ℕ)). AreWordsOf xs all) (r.cut ∙ ap (λ (xs : List
    (List ℕ)). r.before ++ xs) next) are) in
    none_some _ s.0 none (only s.0 s.1)

pub read-all : (words left : List (List ℕ)) (specs : List Spec) → ReadSoFar words left specs → length left ≡ 0 →
    AreWordsOf words specs
read-all words left specs r done =
    subst (λ (xs : List (List ℕ)). AreWordsOf xs specs)
    (sym (append-nil r.before) ∙ (ap (λ (xs : List (List ℕ)). r.before ++ xs) (sym (none_left left done))
    ∙ sym r.cut)) r.are
