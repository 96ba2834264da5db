-- The rules are read from their file, and the tape is written as they have it.
use Rattle.std.proofs.Common.{◌≡◌, ◌⊎◌, ℕ, Bool, true, false, if◌then◌else◌, List, [], length}
use Rattle.std.proofs.Common.{refl, sym, ◌∙◌, ap, subst, inl, inr, arith}
use Rattle.std.specs.Prelude.{Result, Ok, Err, IfErr, nat_lt}
use Rattle.mb_message.specs.Front.{IsFront}
use Rattle.mb_outside.specs.Cause.{Rose}
use Rattle.mb_outside.specs.Contents.{Contents}
use Rattle.mb_filter.specs.Read.{fault_at, rules_from, rules_of}
use Rattle.mb_filter.specs.declared.rule.Rule.{Rule}
use Rattle.mb_filter.specs.declared.rules.RulesFault.{RulesFault}
use Rattle.mb_filter.specs.declared.rules.RuleWhy.TheVariants as why
use Rattle.mb_text.specs.Text.{lines}
use Rattle.mb_carrier.specs.declared.spec.Spec.{Spec}
use Rattle.mb_rewrite.specs.Filtering.{filtering_rules, filtering_spec}
use Rattle.mb_rewrite.specs.declared.filtering.Filtering.{Filtering}
use Rattle.mb_words.specs.Command.{FilteringTape}
use Rattle.mb_top.specs.Answer.{EndsAs}
use Rattle.mb_top.specs.RulesFile.{HasJudged, HasRules, IsRulesStop, NoRules, RulesRead}
use Rattle.mb_top.specs.TextFile.{FileRead, Opened}
use Rattle.mb_top.specs.Ran.{CommandMay, CommandRan, Faulted, MayAnswer, Ran}
use Rattle.mb_top.specs.Task.{Task}
use Rattle.mb_top.specs.declared.fault.Fault.TheVariants as fault
use Rattle.mb_top.specs.declared.status.Status.{Status}
use Rattle.mb_top.specs.declared.status.Status.TheVariants.{Stopped}
use Rattle.mb_top.specs.declared.status.Stop.{Stop}
use Rattle.mb_top.specs.declared.status.Stop.TheVariants.{ReadFault, Refused, TooLong, Faulty}
use Rattle.mb_top.proofs.RulesLemmas.{opened-given, opened-same, written-nothing}
use Rattle.mb_top.proofs.StreamLemmas.{no_fault-told}

too-long : (text : List ℕ) (rules : List Rule) → length text ≡ 4097 → rules_of text ≡ Ok rules → ⊥
too-long text rules long found =
    let refused : rules_of text ≡ fault_at 0 why.Long =
    ap (λ (b : Bool). if b then fault_at 0 why.Long else rules_from 1 (Ok []) (lines text)) (ap (nat_lt 4096) long) in
    let both = sym refused ∙ found in
    cc

pub rules-read : (file text : List ℕ) (before now : Contents) (result : Result (List Rule) Stop) →
    FileRead file 4097 before now text → HasJudged (rules_of text) result → RulesRead file before now result
rules-read file text before now (Ok rules) f found = (
  f.opened,
  record {
    given = opened-given file before now f.opened;
    all = elim f.all [ inl e ↦ e | inr n ↦ absurd (too-long text rules n found) ];
    are = ap rules_of f.text_is ∙ found;
  },
)
rules-read file text before now (Err (Faulty (fault.Rules f))) r found = (
  inr r.opened,
  record {
    given = opened-given file before now r.opened;
    judged = elim r.all [ inl e ↦ inl e | inr n ↦ inr (ap length r.text_is ∙ n) ];
    are = ap rules_of r.text_is ∙ found;
  },
)
rules-read file text before now (Err ReadFault) r found = absurd found
rules-read file text before now (Err Refused) r found = absurd found
rules-read file text before now (Err TooLong) r found = absurd found
rules-read file text before now (Err (Faulty (fault.Tape f))) r found = absurd found
rules-read file text before now (Err (Faulty (fault.File f))) r found = absurd found
rules-read file text before now (Err (Faulty fault.LongTrack)) r found = absurd found
rules-read file text before now (Err (Faulty (fault.LongGap a b))) r found = absurd found
rules-read file text before now (Err (Faulty fault.Memory)) r found = absurd found
rules-read file text before now (Err (Faulty (fault.Rig line cause))) r found = absurd found

-- what a judged text says of faults

pub judged-faults : (found : Result (List Rule) RulesFault) (result : Result (List Rule) Stop)
    (reads reads_now writes writes_now : ℕ) → HasJudged found result → reads_now ≡ reads → writes_now ≡ writes →
    IfErr result (λ stop. Faulted (Unit {0}) reads reads_now writes writes_now (Stopped stop))
judged-faults found (Ok rules) reads reads_now writes writes_now h same still = tt
judged-faults found (Err (Faulty (fault.Rules f))) reads reads_now writes writes_now h same still =
    no_fault-told (Unit {0}) (Faulty (fault.Rules f)) reads reads_now writes writes_now (λ e. cc) (λ e. cc) same still
judged-faults found (Err ReadFault) reads reads_now writes writes_now h same still = absurd h
judged-faults found (Err Refused) reads reads_now writes writes_now h same still = absurd h
judged-faults found (Err TooLong) reads reads_now writes writes_now h same still = absurd h
judged-faults found (Err (Faulty (fault.Tape f))) reads reads_now writes writes_now h same still = absurd h
judged-faults found (Err (Faulty (fault.File f))) reads reads_now writes writes_now h same still = absurd h
judged-faults found (Err (Faulty fault.LongTrack)) reads reads_now writes writes_now h same still = absurd h
judged-faults found (Err (Faulty (fault.LongGap a b))) reads reads_now writes writes_now h same still = absurd h
judged-faults found (Err (Faulty fault.Memory)) reads reads_now writes writes_now h same still = absurd h
judged-faults found (Err (Faulty (fault.Rig line cause))) reads reads_now writes writes_now h same still = absurd h

pub judged-stops : (found : Result (List Rule) RulesFault) (result : Result (List Rule) Stop) →
    HasJudged found result → IfErr result (λ stop. IsRulesStop (Stopped stop))
judged-stops found (Ok rules) h = tt
judged-stops found (Err (Faulty (fault.Rules f))) h = tt
judged-stops found (Err ReadFault) h = absurd h
judged-stops found (Err Refused) h = absurd h
judged-stops found (Err TooLong) h = absurd h
judged-stops found (Err (Faulty (fault.Tape f))) h = absurd h
judged-stops found (Err (Faulty (fault.File f))) h = absurd h
judged-stops found (Err (Faulty fault.LongTrack)) h = absurd h
judged-stops found (Err (Faulty (fault.LongGap a b))) h = absurd h
judged-stops found (Err (Faulty fault.Memory)) h = absurd h
judged-stops found (Err (Faulty (fault.Rig line cause))) h = absurd h

-- a filter, from its rules on

not-unread : true ≡ false → ⊥
not-unread e = cc

pub filter-task : (f : Filtering) (rules : List Rule) (s : Spec) → filtering_rules f ≡ rules → filtering_spec f ≡ s →
    FilteringTape (filtering_rules f) (filtering_spec f) ≡ FilteringTape rules s
filter-task f rules s same spec_is =
    ap (λ (rs : List Rule). FilteringTape rs (filtering_spec f)) same
    ∙ ap (λ (t : Spec). FilteringTape rules t) spec_is

pub filter-ran : (file : List ℕ) (s : Spec) (limit : ℕ) (before start after : Contents) (rules : List Rule)
    (t : Task) (status : Status) → t ≡ FilteringTape rules s → Opened before start file × HasRules file before start rules →
    Ran t limit start after status → CommandRan (FilteringTape file s) limit before after status
filter-ran file s limit before start after rules t status is read ran =
    let r = subst (λ (x : Task). Ran x limit start after status) is ran in
    let left = (opened-same file before start read.0).left 0 (omega arith) in
    record {
      start = start;
      opened = inr (file, s, refl, read.0);
      input = r.input;
      output = r.output;
      tally = r.tally;
      contents = r.contents;
      front = subst (IsFront r.input) left r.front;
      unread = λ none. absurd (not-unread none);
      within = r.within;
      ends = inl (record {
        rules = rules;
        got_them = read.1;
        holds = subst (λ (xs : List ℕ). EndsAs (FilteringTape rules s) limit xs r.input r.output r.tally status) left
            r.ends;
      });
    }

pub filter-none : (file : List ℕ) (s : Spec) (limit : ℕ) (before start : Contents) (stop : Stop) →
    ((start ≡ before) ⊎ Opened before start file) × NoRules file before start (Stopped stop) →
    CommandRan (FilteringTape file s) limit before start (Stopped stop)
filter-none file s limit before start stop none =
    record {
      start = start;
      opened = elim none.0 [ inl e ↦ inl e | inr o ↦ inr (file, s, refl, o) ];
      input = [];
      output = [];
      tally = [];
      contents = sym (written-nothing start);
      front = (before.left 0, refl);
      unread = λ e. refl;
      within = omega arith;
      ends = inr ((refl, refl, refl), none.1);
    }

pub filter-may : (file : List ℕ) (s : Spec) (rules : List Rule) (t : Task) (status : Status) →
    t ≡ FilteringTape rules s → MayAnswer t status → CommandMay (FilteringTape file s) status
filter-may file s rules t status is may =
    record { rules = rules; may = subst (λ (x : Task). MayAnswer x status) is may }

pub none-may : (file : List ℕ) (s : Spec) (stop : Stop) → IsRulesStop (Stopped stop) →
    CommandMay (FilteringTape file s) (Stopped stop)
none-may file s stop h = record { rules = []; may = by stop h }
  where
    by : (x : Stop) → IsRulesStop (Stopped x) → MayAnswer {R = List Rule} (FilteringTape [] s) (Stopped x)
    by ReadFault h = refl
    by (Faulty (fault.Rules f)) h = refl
    by Refused h = absurd h
    by TooLong h = absurd h
    by (Faulty (fault.Tape f)) h = absurd h
    by (Faulty (fault.File f)) h = absurd h
    by (Faulty fault.LongTrack) h = absurd h
    by (Faulty (fault.LongGap a b)) h = absurd h
    by (Faulty fault.Memory) h = absurd h
    by (Faulty (fault.Rig line cause)) h = absurd h

pub faults-later : (quiet other : Type 0) (reads reads_mid reads_now writes writes_mid writes_now : ℕ)
    (status : Status) → (other → quiet) → reads_mid ≡ reads → writes_mid ≡ writes →
    Faulted quiet reads_mid reads_now writes_mid writes_now status →
    Faulted other reads reads_now writes writes_now status
faults-later quiet other reads reads_mid reads_now writes writes_mid writes_now status weaker same still f =
    record {
      reads_later = omega (arith, f.reads_later, same);
      writes_later = omega (arith, f.writes_later, still);
      read = λ e. subst (λ (n : ℕ). Rose n reads_now) same (f.read e);
      write = λ e. subst (λ (n : ℕ). Rose n writes_now) still (f.write e);
      unread = λ no_read quietly. f.unread no_read (λ e. weaker (quietly e)) ∙ same;
      unwritten = λ no_write. f.unwritten no_write ∙ still;
    }
