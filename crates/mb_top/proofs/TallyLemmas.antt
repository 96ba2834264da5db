-- The tally, line by line.
use Rattle.std.proofs.Common.{subst, ◌≡◌, ℕ, zero, suc, ◌+◌, ◌<◌, ◌≤◌, List, [], ◌∷◌, ◌++◌, length, take, drop, refl}
use Rattle.std.proofs.Common.{sym, ◌∙◌, ap, arith, append_assoc}
use Rattle.std.specs.Prelude.{slice_index_or}
use Rattle.std.proofs.lemmas.List.{append-nil, length-take-le}
use Rattle.mb_message.specs.Front.{IsPart}
use Rattle.mb_outside.specs.TakingLaws.{part-within, part-behind}
use Rattle.mb_carrier.specs.Lines.{hop_text}
use Rattle.mb_carrier.specs.declared.spec.Spec.{Spec}
use Rattle.mb_chain.specs.Row.{Link}
use Rattle.mb_chain.specs.Chain.{ChainEnded, chain_links, links_of, crossing_all}
use Rattle.mb_chain.specs.declared.chain.Chain.{Chain}
use Rattle.mb_top.specs.Output.{arriving, tally_from}
use Rattle.mb_top.specs.Job.{ChainOf, Tallied, TalliedPart}
use Rattle.mb_top.proofs.ChainLemmas.{crossing-is, take-next}

-- the lines of the specs before a place were handed on
pub record ToldSoFar (specs : List Spec) (ended : List ℕ → Type 0) (at : ℕ) (took : List ℕ → Type 0) : Type 0 where
  pub given : List ℕ
  pub took_it : took given
  pub rest : (bytes : List ℕ) → ended bytes →
      tally_from [] specs bytes ≡ given ++ tally_from (take at specs) (drop at specs) bytes

pub told-none : (specs : List Spec) (ended : List ℕ → Type 0) (took : List ℕ → Type 0) → took [] →
    ToldSoFar specs ended 0 took
told-none specs ended took none = record { given = []; took_it = none; rest = λ bytes h. refl }

next_spec : (specs : List Spec) (at : ℕ) (d : Spec) → at < length specs →
    drop at specs ≡ slice_index_or specs at d ∷ drop (suc at) specs
next_spec [] at d within = absurd (omega (arith, within))
next_spec (s ∷ specs) zero d within = refl
next_spec (s ∷ specs) (suc at) d within = next_spec specs at d (omega (arith, within))

-- the line of the next spec
pub next_line : (specs : List Spec) (links : List Link) (at count : ℕ) (d s : Spec) (bytes : List ℕ) →
    links ≡ links_of specs → at < length specs → s ≡ slice_index_or specs at d →
    count ≡ length (crossing_all links at bytes) →
    tally_from (take at specs) (drop at specs) bytes
    ≡ hop_text at s count ++ tally_from (take (at + 1) specs) (drop (at + 1) specs) bytes
next_line specs links at count d s bytes same within is counted =
    let next : drop at specs ≡ s ∷ drop (suc at) specs = next_spec specs at d within
    ∙ ap (λ (x : Spec). x ∷ drop (suc at) specs) (sym is) in
    let further : suc at ≡ at + 1 = omega arith in
    let place : length (take at specs) ≡ at = length-take-le at specs (omega (arith, within)) in
    ap (λ (ss : List Spec). tally_from (take at specs) ss bytes) next
    ∙ (ap (λ (n : ℕ). hop_text n s (length (arriving (take at specs) s bytes))
    ++ tally_from (take at specs ++ s ∷ []) (drop (suc at) specs) bytes) place
    ∙ (ap (λ (n : ℕ). hop_text at s n ++ tally_from (take at specs ++ s ∷ []) (drop (suc at) specs) bytes)
    (sym (counted ∙ ap length (crossing-is specs (drop (suc at) specs) links at s bytes same next)))
    ∙ (ap (λ (ss : List Spec). hop_text at s count ++ tally_from ss (drop (suc at) specs) bytes)
    (sym (take-next specs (drop (suc at) specs) at s next))
    ∙ ap (λ (n : ℕ). hop_text at s count ++ tally_from (take n specs) (drop n specs) bytes) further)))

pub told-more : (specs : List Spec) (chain : Chain) (at count : ℕ) (d s : Spec) (line : List ℕ)
    (took next now : List ℕ → Type 0) →
    ChainOf specs chain → at < length specs → s ≡ slice_index_or specs at d →
    ((bytes : List ℕ) → ChainEnded chain bytes → count ≡ length (crossing_all (chain_links chain) at bytes)) →
    line ≡ hop_text at s count → next line → ((x y : List ℕ) → took x → next y → now (x ++ y)) →
    ToldSoFar specs (ChainEnded chain) at took → ToldSoFar specs (ChainEnded chain) (at + 1) now
told-more specs chain at count d s line took next now c within is counted line_is took_line both t =
    record {
      given = t.given ++ line;
      took_it = both t.given line t.took_it took_line;
      rest = λ bytes h.
          t.rest bytes h
          ∙ (ap (λ xs. t.given ++ xs) (next_line specs (chain_links chain) at count d s bytes c.links within is
          (counted bytes h) ∙ ap (λ xs. xs ++ tally_from (take (at + 1) specs) (drop (at + 1) specs) bytes)
          (sym line_is))
          ∙ sym (append_assoc t.given line (tally_from (take (at + 1) specs) (drop (at + 1) specs) bytes)));
    }

no_specs : (specs : List Spec) (at : ℕ) → length specs ≤ at → drop at specs ≡ []
no_specs [] zero e = refl
no_specs [] (suc at) e = refl
no_specs (s ∷ specs) zero e = absurd (omega (arith, e))
no_specs (s ∷ specs) (suc at) e = no_specs specs at (omega (arith, e))

pub told-all : (specs : List Spec) (ended : List ℕ → Type 0) (at : ℕ) (took : List ℕ → Type 0) → length specs ≤ at →
    ToldSoFar specs ended at took → Tallied specs ended took
told-all specs ended at took all t =
    record {
      given = t.given;
      took_it = t.took_it;
      tally = λ bytes h. sym (t.rest bytes h ∙ (ap (λ (ss : List Spec). t.given ++ tally_from
          (take at specs) ss bytes) (no_specs specs at all) ∙ append-nil t.given));
    }

pub told-halted : (specs : List Spec) (chain : Chain) (at count : ℕ) (d s : Spec) (line front : List ℕ)
    (took next now : List ℕ → Type 0) →
    ChainOf specs chain → at < length specs → s ≡ slice_index_or specs at d →
    ((bytes : List ℕ) → ChainEnded chain bytes → count ≡ length (crossing_all (chain_links chain) at bytes)) →
    line ≡ hop_text at s count → IsPart front line → next front → ((x y : List ℕ) → took x → next y → now (x ++ y)) →
    ToldSoFar specs (ChainEnded chain) at took → TalliedPart specs (ChainEnded chain) now
told-halted specs chain at count d s line front took next now c within is counted line_is f took_front both t =
    record {
      given = t.given ++ front;
      took_it = both t.given front t.took_it took_front;
      part = λ bytes h.
          let rest = tally_from (take (at + 1) specs) (drop (at + 1) specs) bytes in
          subst (IsPart (t.given ++ front))
          (sym (t.rest bytes h ∙ ap (λ xs. t.given ++ xs)
          (next_line specs (chain_links chain) at count d s bytes c.links within is (counted bytes h)
          ∙ ap (λ xs. xs ++ rest) (sym line_is))))
          (part-behind t.given front (line ++ rest) (part-within front line (line ++ rest) f (rest, refl)));
    }
