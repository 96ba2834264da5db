-- What a chain of specs does, said of its conversion.
use Rattle.std.proofs.Common.{None, subst, ◌≡◌, ℕ, zero, suc, ◌+◌, ◌≤◌, Bool, false, not, List, [], ◌∷◌, ◌++◌, length}
use Rattle.std.proofs.Common.{take}
use Rattle.std.proofs.Common.{drop, refl, sym, ◌∙◌, ap, arith}
use Rattle.std.proofs.lemmas.List.{length-map, length-drop}
use Rattle.mb_message.specs.Front.{IsFront, IsPart}
use Rattle.mb_carrier.specs.Carrier.{whole, live, puts_known}
use Rattle.mb_carrier.specs.Conversion.{none_set, moments_of, through, live_through}
use Rattle.mb_carrier.proofs.ConversionLemmas.{laws}
use Rattle.mb_carrier.proofs.GrowLemmas.{live-grows}
use Rattle.mb_carrier.proofs.GrowSpecs.{grows}
use Rattle.mb_carrier.specs.declared.spec.Spec.{Spec}
use Rattle.mb_chain.specs.Row.{Link, link_of, links_from, live_over, through_over}
use Rattle.mb_chain.specs.Chain.{links_of, chain_links, ChainStands, ChainEnded, ChainFed, ChainHalted, ChainFinished}
use Rattle.mb_chain.specs.Chain.{ChainEndHalted, crossing_all}
use Rattle.mb_chain.specs.declared.chain.Chain.{Chain}
use Rattle.mb_chain.proofs.RowLemmas.{live-chain, through-chain, row-closes}
use Rattle.mb_filter.specs.declared.rule.Rule.{Rule}
use Rattle.mb_words.specs.Meaning.{front_of, end_of, converting}
use Rattle.mb_words.proofs.CommandLemmas.{specs_again}
use Rattle.mb_top.specs.Output.{output_of, live_output_of, is_whole, arriving, HasNoNotes, fault_of}
use Rattle.mb_top.specs.Output.{CanWrite}
use Rattle.mb_top.specs.Job.{ChainOf, JobFed, JobHalted, JobEnded, JobEndHalted}

-- what was written stays written, and the end stands behind it

pub chain-stays : (first : Spec) (between : List Spec) (last : Spec) (bytes more : List ℕ) →
    IsFront (live_through first between last bytes) (live_through first between last (bytes ++ more))
chain-stays first between last bytes more = live-grows laws grows first between last bytes more

pub chain-closes : (first : Spec) (between : List Spec) (last : Spec) (bytes : List ℕ) →
    IsFront (live_through first between last bytes) (through first between last bytes)
chain-closes first between last bytes =
    let f = row-closes (links_from first (between ++ last ∷ [])) none_set bytes in (
      f.0,
      sym (through-chain first between last none_set bytes)
          ∙ (f.1 ∙ ap (λ xs. xs ++ f.0) (live-chain first between last none_set bytes)),
    )

-- of nothing nothing is written
none-over : (links : List Link) (m : ℕ → ℕ) → live_over links m [] ≡ []
none-over [] m = refl
none-over (l ∷ links) m =
    ap (λ ks. live_over links (moments_of l.writes 0 (puts_known l.reads m ks))
    (live l.writes (puts_known l.reads m ks))) (grows l.reads).nothing_known
    ∙ (ap (live_over links (moments_of l.writes 0 [])) (grows l.writes).nothing
    ∙ none-over links (moments_of l.writes 0 []))

pub chain-none : (first : Spec) (between : List Spec) (last : Spec) → live_through first between last [] ≡ []
chain-none first between last = sym (live-chain first between last none_set [])
    ∙ none-over (links_from first (between ++ last ∷ [])) none_set

-- a chain's links do what its specs say

live-is : (tally : Bool) (specs : List Spec) (links : List Link) (bytes : List ℕ) → links ≡ links_of specs →
    2 ≤ length specs → live_over links none_set bytes ≡ live_output_of (converting tally specs) bytes
live-is tally [] links bytes same some = absurd (omega (arith, some))
live-is tally (first ∷ []) links bytes same some = absurd (omega (arith, some))
live-is tally (first ∷ s ∷ specs) links bytes same some =
    ap (λ (ls : List Link). live_over ls none_set bytes) same
    ∙ (ap (λ (ss : List Spec). live_over (links_from first ss) none_set bytes) (specs_again s specs)
    ∙ live-chain first (front_of s specs) (end_of s specs) none_set bytes)

through-is : (tally : Bool) (specs : List Spec) (links : List Link) (bytes : List ℕ) → links ≡ links_of specs →
    2 ≤ length specs → through_over links none_set bytes ≡ output_of (converting tally specs) bytes
through-is tally [] links bytes same some = absurd (omega (arith, some))
through-is tally (first ∷ []) links bytes same some = absurd (omega (arith, some))
through-is tally (first ∷ s ∷ specs) links bytes same some =
    ap (λ (ls : List Link). through_over ls none_set bytes) same
    ∙ (ap (λ (ss : List Spec). through_over (links_from first ss) none_set bytes) (specs_again s specs)
    ∙ through-chain first (front_of s specs) (end_of s specs) none_set bytes)

pub chain-of : (specs : List Spec) (chain now : Chain) → chain_links now ≡ chain_links chain → ChainOf specs chain →
    ChainOf specs now
chain-of specs chain now same c = record { links = same ∙ c.links; some = c.some; few = c.few }

-- a step of a chain is a step of its conversion

abbrev Stands : List Spec → Chain → List ℕ → Type 0
Stands specs chain bytes = ChainOf specs chain × ChainStands chain bytes

no_fault : (tally : Bool) (specs : List Spec) (bytes : List ℕ) → fault_of (converting {R = List Rule} tally specs) bytes ≡ None
no_fault tally [] bytes = refl
no_fault tally (first ∷ []) bytes = refl
no_fault tally (first ∷ s ∷ specs) bytes = refl

pub chain-fed : (tally : Bool) (specs : List Spec) (chain now : Chain) (piece : List ℕ) (took : List ℕ → Type 0) →
    ChainOf specs chain → chain_links now ≡ chain_links chain →
    ChainFed (chain_links chain) (ChainStands chain) (ChainStands now) piece took →
    JobFed (converting tally specs) (Stands specs chain) (Stands specs now) (Stands specs now) piece None took
chain-fed tally specs chain now piece took c same f =
    record {
      given = f.given;
      took_it = f.took_it;
      stands = λ none bytes h. (chain-of specs chain now same h.0, f.stands bytes h.1);
      beyond = λ bytes h.
          sym (live-is tally specs (chain_links chain) (bytes ++ piece) c.links c.some)
          ∙ (f.beyond bytes h.1 ∙ ap (λ xs. xs ++ f.given)
          (live-is tally specs (chain_links chain) bytes c.links c.some));
      may_stop = λ bytes h. (chain-of specs chain now same h.0, f.stands bytes h.1);
      kept = λ bytes h. no_fault tally specs (bytes ++ piece);
    }

pub chain-halted : (tally : Bool) (specs : List Spec) (chain : Chain) (piece : List ℕ) (took : List ℕ → Type 0) →
    ChainOf specs chain →
    ChainHalted (chain_links chain) (ChainStands chain) piece took →
    JobHalted (converting tally specs) (Stands specs chain) piece took
chain-halted tally specs chain piece took c f =
    record {
      given = f.given;
      took_it = f.took_it;
      part = λ bytes h.
          subst (IsPart (live_output_of (converting tally specs) bytes ++ f.given))
          (live-is tally specs (chain_links chain) (bytes ++ piece) c.links c.some)
          (subst (λ (xs : List ℕ). IsPart (xs ++ f.given) (live_over (chain_links chain) none_set (bytes ++ piece)))
          (live-is tally specs (chain_links chain) bytes c.links c.some) (f.front bytes h.1));
    }

pub chain-ended : (tally : Bool) (specs : List Spec) (chain now : Chain) (took : List ℕ → Type 0) →
    ChainOf specs chain → chain_links now ≡ chain_links chain →
    ChainFinished (chain_links chain) (ChainStands chain) (ChainEnded now) took →
    JobEnded (converting tally specs) (Stands specs chain)
    (λ bytes. ChainOf specs now × ChainEnded now bytes) false took
chain-ended tally specs chain now took c same f = λ bytes h.
    record {
      given = f.given;
      took_it = f.took_it;
      stands = (chain-of specs chain now same h.0, f.counted bytes h.1);
      beyond =
          sym (through-is tally specs (chain_links chain) bytes c.links c.some)
          ∙ (f.beyond bytes h.1 ∙ ap (λ xs. xs ++ f.given)
          (live-is tally specs (chain_links chain) bytes c.links c.some));
      can = can_be tally specs bytes;
      notes = no_remark tally specs bytes c.some;
    }
  where
    can_be : (tally : Bool) (specs : List Spec) (bytes : List ℕ) → CanWrite (converting {R = List Rule} tally specs) bytes
    can_be tally [] bytes = tt
    can_be tally (first ∷ []) bytes = tt
    can_be tally (first ∷ s ∷ specs) bytes = tt

    no_remark : (tally : Bool) (specs : List Spec) (bytes : List ℕ) → 2 ≤ length specs →
        HasNoNotes (converting {R = List Rule} tally specs) bytes
    no_remark tally [] bytes some = absurd (omega (arith, some))
    no_remark tally (first ∷ []) bytes some = absurd (omega (arith, some))
    no_remark tally (first ∷ s ∷ specs) bytes some = tt

pub chain-end_halted : (tally : Bool) (specs : List Spec) (chain : Chain) (took : List ℕ → Type 0) →
    ChainOf specs chain →
    ChainEndHalted (chain_links chain) (ChainStands chain) took →
    JobEndHalted (converting tally specs) (Stands specs chain) took
chain-end_halted tally specs chain took c f = λ bytes h.
    record {
      given = f.given;
      took_it = f.took_it;
      part =
          subst (IsPart (live_output_of (converting tally specs) bytes ++ f.given))
          (through-is tally specs (chain_links chain) bytes c.links c.some)
          (subst (λ (xs : List ℕ). IsPart (xs ++ f.given) (through_over (chain_links chain) none_set bytes))
          (live-is tally specs (chain_links chain) bytes c.links c.some) (f.front bytes h.1));
    }

-- how many hops there are

pub links-count : (specs : List Spec) (links : List Link) → links ≡ links_of specs → 1 ≤ length specs →
    length links + 1 ≡ length specs
links-count [] links same some = absurd (omega (arith, some))
links-count (first ∷ specs) links same some = omega (arith, ap length same, from first specs)
  where
    from : (s : Spec) (ss : List Spec) → length (links_from s ss) ≡ length ss
    from s [] = refl
    from s (t ∷ ss) = ap (λ n. suc n) (from t ss)

pub hops-count : (specs : List Spec) (chain : Chain) → ChainOf specs chain → length chain.hops.items + 1 ≡ length specs
hops-count specs chain c = omega (
  arith,
  links-count specs (chain_links chain) c.links (omega (arith, c.some)),
  length-map chain.hops.items link_of,
)

-- whether the input is cut

pub chain-cut : (tally : Bool) (specs : List Spec) (chain : Chain) (cut : Bool) (bytes : List ℕ) → ChainOf specs chain →
    ((first : Link) (behind : List Link) → chain_links chain ≡ first ∷ behind → cut ≡ not (whole first.reads bytes)) →
    cut ≡ not (is_whole (converting {R = List Rule} tally specs) bytes)
chain-cut tally [] chain cut bytes c tells = absurd (omega (arith, c.some))
chain-cut tally (first ∷ []) chain cut bytes c tells = absurd (omega (arith, c.some))
chain-cut tally (first ∷ s ∷ specs) chain cut bytes c tells = tells (record { reads = first; writes = s })
    (links_from s specs) c.links

-- what crosses a place

links-take : (s : Spec) (specs : List Spec) (n : ℕ) → take n (links_from s specs) ≡ links_from s (take n specs)
links-take s [] zero = refl
links-take s [] (suc n) = refl
links-take s (t ∷ specs) zero = refl
links-take s (t ∷ specs) (suc n) = ap (λ (ls : List Link). record { reads = s; writes = t } ∷ ls) (links-take t specs n)

nothing_behind : (n : ℕ) (s : Spec) (rest : List Spec) → drop n [] ≡ s ∷ rest → ⊥
nothing_behind n s rest e = omega (arith, ap length e, length-drop {A = Spec} n [])

pub take-next : (specs rest : List Spec) (n : ℕ) (s : Spec) → drop n specs ≡ s ∷ rest →
    take (suc n) specs ≡ take n specs ++ s ∷ []
take-next [] rest n s e = absurd (nothing_behind n s rest e)
take-next (t ∷ specs) rest zero s e = cc
take-next (t ∷ specs) rest (suc n) s e = ap (λ (ss : List Spec). t ∷ ss) (take-next specs rest n s e)

pub crossing-is : (specs rest : List Spec) (links : List Link) (at : ℕ) (s : Spec) (bytes : List ℕ) →
    links ≡ links_of specs → drop at specs ≡ s ∷ rest →
    crossing_all links at bytes ≡ arriving (take at specs) s bytes
crossing-is [] rest links at s bytes same e = absurd (nothing_behind at s rest e)
crossing-is (first ∷ specs) rest links zero s bytes same e = ap
    (λ (ls : List Link). through_over (take zero ls) none_set bytes) same
crossing-is (first ∷ specs) rest links (suc at) s bytes same e =
    ap (λ (ls : List Link). through_over (take (suc at) ls) none_set bytes) same
    ∙ (ap (λ (ls : List Link). through_over ls none_set bytes) (links-take first specs (suc at))
    ∙ (ap (λ (ss : List Spec). through_over (links_from first ss) none_set bytes) (take-next specs rest at s e)
    ∙ through-chain first (take at specs) s none_set bytes))
