-- The rules' file is opened and read at a handle of its own: what stands at the desk's other handles stays.
use Rattle.std.proofs.Common.{◌≡◌, Bool, true, false, ℕ, ◌==◌, if◌then◌else◌, List, [], ◌∷◌, ◌++◌, length, take, drop}
use Rattle.std.proofs.Common.{◌∙◌, ap, inl, inr, arith}
use Rattle.std.proofs.lemmas.Bool.Decides.{nat_tests}
use Rattle.mb_outside.specs.Contents.{Contents, after_open, after_read, after_write, next_handle, with_entry}
use Rattle.mb_outside.specs.ContentsLaws.{after_read-none, after_write-none}
use Rattle.mb_filter.specs.Read.{rules_of}
use Rattle.mb_filter.specs.declared.rule.Rule.{Rule}
use Rattle.mb_filter.specs.declared.rules.RulesFault.{RulesFault}
use Rattle.mb_words.specs.Command.{Command, Converting, Listing, Migrating, RecordingTape, PlayingFile, GuardingTape}
use Rattle.mb_words.specs.Command.{FilteringTape, RunningRig, Selftesting}
use Rattle.mb_top.specs.RulesFile.{HasBadRules, HasRules, NoRules}
use Rattle.mb_top.specs.TextFile.{Opened, text_taken}
use Rattle.mb_top.specs.Answer.{GotNone, GotRules, IsHandle}
use Rattle.mb_top.specs.Ran.{written_of}
use Rattle.mb_top.specs.declared.fault.Fault.TheVariants as fault
use Rattle.mb_top.specs.declared.status.Status.{Status}
use Rattle.mb_top.specs.declared.status.Status.TheVariants.{Done, Noted, Usage, Cut, Stopped, BadTape}
use Rattle.mb_top.specs.declared.status.Stop.TheVariants.{ReadFault, Refused, TooLong, Faulty}

pub with_entry-other : (entries : ℕ → List ℕ) (handle : ℕ) (bytes : List ℕ) (other : ℕ) → (other == handle) ≡ false →
    with_entry entries handle bytes other ≡ entries other
with_entry-other entries handle bytes other e = ap (λ (t : Bool). if t then bytes else entries other) e

pub with_entry-at : (entries : ℕ → List ℕ) (handle : ℕ) (bytes : List ℕ) (other : ℕ) → (other == handle) ≡ true →
    with_entry entries handle bytes other ≡ bytes
with_entry-at entries handle bytes other e = ap (λ (t : Bool). if t then bytes else entries other) e

pub written-nothing : (c : Contents) → written_of [] [] [] c ≡ c
written-nothing c =
    after_write-none 2 (after_write 1 [] (after_read 0 0 c))
    ∙ (after_write-none 1 (after_read 0 0 c) ∙ after_read-none 0 c)

-- the handles that a desk had stand as they stood
pub record SameHandles (before start : Contents) : Type 0 where
  pub left : (handle : ℕ) → IsHandle before handle → start.left handle ≡ before.left handle
  pub taken : (handle : ℕ) → IsHandle before handle → start.taken handle ≡ before.taken handle
  pub written : (handle : ℕ) → IsHandle before handle → start.written handle ≡ before.written handle

pub untouched : (before start : Contents) → start ≡ before → SameHandles before start
untouched before start e =
    record {
      left = λ handle h. ap (λ (c : Contents). c.left handle) e;
      taken = λ handle h. ap (λ (c : Contents). c.taken handle) e;
      written = λ handle h. ap (λ (c : Contents). c.written handle) e;
    }

not-next : (c : Contents) (handle : ℕ) → IsHandle c handle → (handle == next_handle c) ≡ false
not-next c handle h = grind (arith, nat_tests)

pub opened-same : (file : List ℕ) (before start : Contents) → Opened before start file → SameHandles before start
opened-same file before start o =
    record {
      left = λ handle h.
          ap (λ (c : Contents). c.left handle) o.contents
          ∙ (with_entry-other mid.left next (drop o.count (mid.left next)) handle (not-next before handle h)
          ∙ with_entry-other before.left next o.content handle (not-next before handle h));
      taken = λ handle h.
          ap (λ (c : Contents). c.taken handle) o.contents
          ∙ (with_entry-other mid.taken next (mid.taken next ++ take o.count (mid.left next)) handle
          (not-next before handle h)
          ∙ with_entry-other before.taken next [] handle (not-next before handle h));
      written = λ handle h. ap (λ (c : Contents). c.written handle) o.contents;
    }
  where
    next : ℕ
    next = next_handle before

    mid : Contents
    mid = after_open file o.content before

pub opened-given : (file : List ℕ) (before start : Contents) → Opened before start file →
    start.given ≡ before.given ++ (file, false) ∷ []
opened-given file before start o = ap (λ (c : Contents). c.given) o.contents

-- what is read and written later changes nothing at the rules' file

not-first : (c : Contents) → (next_handle c == 0) ≡ false
not-first c = grind (arith, nat_tests)

left-after : (input output words : List ℕ) (before start : Contents) →
    (written_of input output words start).left (next_handle before) ≡ start.left (next_handle before)
left-after input output words before start =
    with_entry-other start.left 0 (drop (length input) (start.left 0)) (next_handle before) (not-first before)

text-after : (input output words : List ℕ) (before start : Contents) →
    text_taken before (written_of input output words start) ≡ text_taken before start
text-after input output words before start =
    with_entry-other start.taken 0 (start.taken 0 ++ take (length input) (start.left 0)) (next_handle before)
    (not-first before)

rules-after : (file : List ℕ) (rules : List Rule) (input output words : List ℕ) (before start : Contents) →
    HasRules file before start rules → HasRules file before (written_of input output words start) rules
rules-after file rules input output words before start r =
    record {
      given = r.given;
      all = left-after input output words before start ∙ r.all;
      are = ap rules_of (text-after input output words before start) ∙ r.are;
    }

bad-after : (file : List ℕ) (f : RulesFault) (input output words : List ℕ) (before start : Contents) →
    HasBadRules file before start f → HasBadRules file before (written_of input output words start) f
bad-after file f input output words before start r =
    record {
      given = r.given;
      judged = elim r.judged [
        | inl e ↦ inl (left-after input output words before start ∙ e)
        | inr n ↦ inr (ap length (text-after input output words before start) ∙ n)
      ];
      are = ap rules_of (text-after input output words before start) ∙ r.are;
    }

pub got-after : (c : Command) (rules : List Rule) (input output words : List ℕ) (before start : Contents) →
    GotRules c before start rules → GotRules c before (written_of input output words start) rules
got-after (Converting tally first between last) rules input output words before start r = tt
got-after (Listing traced s) rules input output words before start r = tt
got-after Migrating rules input output words before start r = tt
got-after (RecordingTape s) rules input output words before start r = tt
got-after PlayingFile rules input output words before start r = tt
got-after (GuardingTape s) rules input output words before start r = tt
got-after (FilteringTape file s) rules input output words before start r =
    rules-after file rules input output words before start r
got-after (RunningRig file) rules input output words before start r = absurd r
got-after (Selftesting start count) rules input output words before begun r = tt

no-rules-after : (file : List ℕ) (status : Status) (input output words : List ℕ) (before start : Contents) →
    NoRules file before start status → NoRules file before (written_of input output words start) status
no-rules-after file (Stopped ReadFault) input output words before start r = tt
no-rules-after file (Stopped (Faulty (fault.Rules f))) input output words before start r =
    bad-after file f input output words before start r
no-rules-after file (Stopped (Faulty (fault.Tape f))) input output words before start r = absurd r
no-rules-after file (Stopped (Faulty (fault.File f))) input output words before start r = absurd r
no-rules-after file (Stopped (Faulty fault.LongTrack)) input output words before start r = absurd r
no-rules-after file (Stopped (Faulty (fault.LongGap was now))) input output words before start r = absurd r
no-rules-after file (Stopped (Faulty fault.Memory)) input output words before start r = absurd r
no-rules-after file (Stopped (Faulty (fault.Rig line cause))) input output words before start r = absurd r
no-rules-after file (BadTape name bad) input output words before start r = absurd r
no-rules-after file (Stopped Refused) input output words before start r = absurd r
no-rules-after file (Stopped TooLong) input output words before start r = absurd r
no-rules-after file Done input output words before start r = absurd r
no-rules-after file Noted input output words before start r = absurd r
no-rules-after file Usage input output words before start r = absurd r
no-rules-after file Cut input output words before start r = absurd r

pub none-after : (c : Command) (status : Status) (input output words : List ℕ) (before start : Contents) →
    GotNone c before start status → GotNone c before (written_of input output words start) status
none-after (Converting tally first between last) status input output words before start r = absurd r
none-after (Listing traced s) status input output words before start r = absurd r
none-after Migrating status input output words before start r = absurd r
none-after (RecordingTape s) status input output words before start r = absurd r
none-after PlayingFile status input output words before start r = absurd r
none-after (GuardingTape s) status input output words before start r = absurd r
none-after (FilteringTape file s) status input output words before start r =
    no-rules-after file status input output words before start r
none-after (RunningRig file) status input output words before start r = absurd r
none-after (Selftesting start count) status input output words before begun r = absurd r
