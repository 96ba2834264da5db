-- A chain of specs, and what it stands for.
--
--   links_of specs             its hops: each reads by the spec that the one before writes by
--   chain_links chain          the hops that a chain has
--   is_broken chain            whether a call was refused
--   ChainStands chain bytes    it was fed these bytes, and each hop what the one before wrote; what the hops write are
--                              ports of their carriers, and no call was refused
--   ChainEnded chain bytes     the same at their end: how many bytes each hop wrote
--   ChainFed, ChainHalted ..   what went out of an input, of all bytes so far; ChainFinished, ChainEndHalted: of the
--                              end
--   crossing links i bytes     what crosses place i: the bytes fed, or what the writer of the spec at that place wrote
--   IsFaulty n fault           a chain of so many specs can't be opened
use Rattle.std.specs.Prelude.{◌≡◌, ℕ, ◌<◌, Bool, false, List, [], ◌∷◌, ◌++◌, length, map, take}
use Rattle.mb_message.specs.Front.{IsPart}
use Rattle.mb_carrier.specs.Conversion.{none_set}
use Rattle.mb_carrier.specs.Word.{AreSpecs}
use Rattle.mb_carrier.specs.declared.spec.Spec.{Spec}
use Rattle.mb_chain.specs.Row.{Link, link_of, links_from, live_over, through_over, RowStands, RowDone}
use Rattle.mb_chain.specs.declared.chain.Chain.{Chain}
use Rattle.mb_chain.specs.declared.chain.ChainFault.{ChainFault}
use Rattle.mb_chain.specs.declared.chain.ChainFault.TheVariants.{TooFew, TooMany, Memory}

abbrev pub links_of : List Spec → List Link
links_of [] = []
links_of (s ∷ ss) = links_from s ss

abbrev pub chain_links : Chain → List Link
chain_links c = map link_of c.hops.items

-- the specs that its hops write
abbrev pub written_by : List Link → List Spec
written_by links = map (λ l. l.writes) links

-- whether a call was refused
abbrev pub is_broken : Chain → Bool
is_broken c = c.is_broken

pub record ChainStands (c : Chain) (bytes : List ℕ) : Type 0 where
  pub row : RowStands c.hops.items none_set bytes
  pub fed : c.fed ≡ length bytes
  pub are_specs : AreSpecs (written_by (chain_links c))
  pub unbroken : is_broken c ≡ false

pub record ChainEnded (c : Chain) (bytes : List ℕ) : Type 0 where
  pub row : RowDone c.hops.items none_set bytes
  pub fed : c.fed ≡ length bytes

pub record ChainFed (links : List Link) (was now : List ℕ → Type 0) (input : List ℕ)
    (took : List ℕ → Type 0) : Type 0 where
  pub given : List ℕ
  pub took_it : took given
  pub stands : (bytes : List ℕ) → was bytes → now (bytes ++ input)
  pub beyond : (bytes : List ℕ) → was bytes →
      live_over links none_set (bytes ++ input) ≡ live_over links none_set bytes ++ given

pub record ChainHalted (links : List Link) (was : List ℕ → Type 0) (input : List ℕ)
    (took : List ℕ → Type 0) : Type 0 where
  pub given : List ℕ
  pub took_it : took given
  pub front : (bytes : List ℕ) → was bytes →
      IsPart (live_over links none_set bytes ++ given) (live_over links none_set (bytes ++ input))

pub record ChainFinished (links : List Link) (was done : List ℕ → Type 0) (took : List ℕ → Type 0) : Type 0 where
  pub given : List ℕ
  pub took_it : took given
  pub counted : (bytes : List ℕ) → was bytes → done bytes
  pub beyond : (bytes : List ℕ) → was bytes →
      through_over links none_set bytes ≡ live_over links none_set bytes ++ given

pub record ChainEndHalted (links : List Link) (was : List ℕ → Type 0) (took : List ℕ → Type 0) : Type 0 where
  pub given : List ℕ
  pub took_it : took given
  pub front : (bytes : List ℕ) → was bytes →
      IsPart (live_over links none_set bytes ++ given) (through_over links none_set bytes)

abbrev pub crossing : List Link → ℕ → List ℕ → List ℕ
crossing links i bytes = live_over (take i links) none_set bytes

abbrev pub crossing_all : List Link → ℕ → List ℕ → List ℕ
crossing_all links i bytes = through_over (take i links) none_set bytes

abbrev pub IsFaulty : ℕ → ChainFault → Type 0
IsFaulty n TooFew = n < 2
IsFaulty n TooMany = 10 < n
IsFaulty n (Memory m) = ⊥
