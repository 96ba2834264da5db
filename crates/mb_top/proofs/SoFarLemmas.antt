-- Before the end of the input: what was written is the live part of what was read, and what that means.
use Rattle.std.proofs.Common.{◌≡◌, ℕ, true, false, List, [], ◌∷◌, ◌++◌, sym, ◌∙◌, ap, subst, IfSome}
use Rattle.mb_message.specs.Front.{IsFront}
use Rattle.mb_outside.specs.Contents.{Contents}
use Rattle.mb_top.specs.declared.fault.Fault.{Fault}
use Rattle.mb_top.specs.declared.fault.Fault.TheVariants as its
use Rattle.mb_stream.specs.Lacking.{Lacks}
use Rattle.mb_stream.specs.MeaningFront.{IsMeaningFront}
use Rattle.mb_carrier.specs.Carrier.{den}
use Rattle.mb_carrier.specs.Conversion.{through, live_through}
use Rattle.mb_carrier.specs.Live.{HeldBackBy, most_held}
use Rattle.mb_carrier.specs.Word.{IsSpec, AreSpecs}
use Rattle.mb_carrier.specs.declared.spec.Spec.{Spec}
use Rattle.mb_carrier.proofs.ConversionLemmas.{laws}
use Rattle.mb_carrier.proofs.GrowLemmas.{live-grows, live-ends}
use Rattle.mb_carrier.proofs.GrowSpecs.{grows}
use Rattle.mb_carrier.proofs.LiveLemmas as live
use Rattle.mb_words.specs.Command.{Command, Means}
use Rattle.mb_top.specs.Output.{stopped_output_of, takes_file}
use Rattle.mb_top.specs.Task.{with_rules}
use Rattle.mb_top.proofs.TaskLemmas.{did-plain}
use Rattle.mb_top.specs.Answer.{Answered, EndsAs, taken_off, added_to, code_of, read_part}
use Rattle.arrayvec.specs.ArrayVec.{ArrayVec}
use Rattle.mb_frames.specs.declared.tape.TapeFault.{TapeFault}
use Rattle.mb_top.specs.declared.status.Status.{Status}
use Rattle.mb_top.specs.declared.status.Status.TheVariants.{Done, Noted, Usage, Cut, Stopped, BadTape}
use Rattle.mb_top.specs.declared.status.Stop.TheVariants.{ReadFault, Refused, TooLong, Faulty}

wrong : false ≡ true → ⊥
wrong e = cc

-- a claim about a status before the end of the input, no write having failed
before_the_end : (claim : Status → Type 0) → claim (Stopped ReadFault) → claim (Stopped TooLong) →
    ((f : Fault) → claim (Stopped (Faulty f))) → ((name : ArrayVec ℕ) (f : TapeFault) → claim (BadTape name f)) →
    (s : Status) → read_part (code_of s) ≡ true → claim s
before_the_end claim fault long bad told (Stopped ReadFault) e = fault
before_the_end claim fault long bad told (Stopped TooLong) e = long
before_the_end claim fault long bad told (Stopped (Faulty (its.Tape f))) e = bad (its.Tape f)
before_the_end claim fault long bad told (Stopped (Faulty (its.File f))) e = bad (its.File f)
before_the_end claim fault long bad told (Stopped (Faulty its.LongTrack)) e = absurd (wrong e)
before_the_end claim fault long bad told (Stopped (Faulty (its.LongGap was now))) e = absurd (wrong e)
before_the_end claim fault long bad told (Stopped (Faulty its.Memory)) e = absurd (wrong e)
before_the_end claim fault long bad told (Stopped (Faulty (its.Rules f))) e = absurd (wrong e)
before_the_end claim fault long bad told (Stopped (Faulty (its.Rig line cause))) e = absurd (wrong e)
before_the_end claim fault long bad told (BadTape name f) e = told name f
before_the_end claim fault long bad told (Stopped Refused) e = absurd (wrong e)
before_the_end claim fault long bad told Done e = absurd (wrong e)
before_the_end claim fault long bad told Noted e = absurd (wrong e)
before_the_end claim fault long bad told Usage e = absurd (wrong e)
before_the_end claim fault long bad told Cut e = absurd (wrong e)

pub live_written : (words : List (List ℕ)) (limit : ℕ) (before after : Contents) (faults faults_now answer : ℕ)
    (c : Command) →
    takes_file c ≡ false → read_part answer ≡ true → Means words c →
    (a : Answered words limit before after faults faults_now answer) →
    added_to 1 before after ≡ stopped_output_of (with_rules [] c) (taken_off 0 before after)
live_written words limit before after faults faults_now answer c plain part m a =
    let t = with_rules [] c in
    before_the_end
    (λ s. EndsAs t limit (before.left 0) (taken_off 0 before after) (added_to 1 before after) a.tally s →
    added_to 1 before after ≡ stopped_output_of t (taken_off 0 before after))
    (λ ends. ends.0) (λ ends. ends.1) (λ f ends. ends.0) (λ name f ends. absurd ends) a.status (sym (ap read_part a.number) ∙ part)
    (did-plain c limit before after a.tally a.status plain (a.did c m)).ends

pub so_far-lacks : (first : Spec) (between : List Spec) (last : Spec) (read written : List ℕ) →
    AreSpecs between → IsSpec last →
    written ≡ live_through first between last read →
    IfSome (most_held (between ++ last ∷ [])) (λ most. Lacks most (den last written) (den first read))
so_far-lacks first between last read written are is e =
    subst (λ (bytes : List ℕ). IfSome (most_held (between ++ last ∷ []))
    (λ most. Lacks most (den last bytes) (den first read))) (sym e)
    (live.so_far-lacks first between last read are is)

pub so_far-held : (first : Spec) (between : List Spec) (last : Spec) (read written : List ℕ) →
    AreSpecs between → IsSpec last →
    written ≡ live_through first between last read →
    HeldBackBy (between ++ last ∷ []) (den first read) (den last written)
so_far-held first between last read written are is e =
    subst (λ (bytes : List ℕ). HeldBackBy (between ++ last ∷ []) (den first read) (den last bytes)) (sym e)
    (live.so_far-held first between last read are is)

pub so_far-stays : (first : Spec) (between : List Spec) (last : Spec) (read written : List ℕ) →
    written ≡ live_through first between last read → (more : List ℕ) →
    IsFront written (live_through first between last (read ++ more))
so_far-stays first between last read written e more =
    subst (λ (bytes : List ℕ). IsFront bytes (live_through first between last (read ++ more))) (sym e)
    (live-grows laws grows first between last read more)

pub so_far-ends : (first : Spec) (between : List Spec) (last : Spec) (read written : List ℕ) →
    written ≡ live_through first between last read → (more : List ℕ) →
    IsFront written (through first between last (read ++ more))
so_far-ends first between last read written e more =
    subst (λ (bytes : List ℕ). IsFront bytes (through first between last (read ++ more))) (sym e)
    (live-ends laws grows first between last read more)

pub so_far-front : (first : Spec) (between : List Spec) (last : Spec) (read written : List ℕ) →
    AreSpecs between → IsSpec last →
    written ≡ live_through first between last read → (more : List ℕ) →
    IsMeaningFront (den last written) (den first (read ++ more))
so_far-front first between last read written are is e more =
    subst (λ (bytes : List ℕ). IsMeaningFront (den last bytes) (den first (read ++ more))) (sym e)
    (live.so_far-front first between last read more are is)
