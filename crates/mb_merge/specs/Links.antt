-- What a router keeps, as a reader can picture it.
--
--   Link             a source: which outs it goes to, whether it owns them, and the marks of it that wait
--   Merger           the links, how many outs there are, the mark just offered where it is to pass, and whether marks
--                    are being drained
--   link_of m s      the link of a source
--   owns other this  whether a link has an open SysEx on an out of another
--   is_owned ls s    whether a source other than s owns an out of s
--   owner_of ls out  the source that owns an out
use Rattle.std.specs.Prelude.{ℕ, zero, suc, ◌<◌, Bool, false, not, ◌&&◌, ◌||◌, ◌==◌, List, [], length, position, Option}
use Rattle.std.specs.Prelude.{Some, None, slice_index_or, slice_set}
use Rattle.std.specs.List.{zip, list_any}
use Rattle.mb_merge.specs.declared.source.Held.{Held}
use Rattle.mb_merge.specs.declared.router.Passed.{Passed}

-- Whether its Open has passed and no End or Abort since; whether the marks taken of it leave a SysEx open; the moment
-- of the last one taken.
pub record Link : Type 0 where
  pub outs : List Bool
  pub is_open : Bool
  pub in_sysex : Bool
  pub last : ℕ
  pub held : List Held

pub record Merger : Type 0 where
  pub links : List Link
  pub outs : ℕ
  pub offered : Option Passed
  pub draining : Bool

abbrev pub closed_link : List Bool → Link
closed_link outs = record { outs = outs; is_open = false; in_sysex = false; last = 0; held = [] }

abbrev pub link_at : List Link → ℕ → Link
link_at links source = slice_index_or links source (closed_link [])

abbrev pub link_of : Merger → ℕ → Link
link_of m source = link_at m.links source

abbrev pub with_link : Merger → ℕ → Link → Merger
with_link m source link = record m { links = slice_set m.links source link }

abbrev pub share : List Bool → List Bool → Bool
share xs ys = list_any (λ p. p.0 && p.1) (zip xs ys)

-- A source owns all its outs from the passing of its Open to the passing of its End or Abort.
abbrev pub owns : (other this : Link) → Bool
owns other this = other.is_open && share other.outs this.outs

-- among the sources below a number
abbrev pub is_owned_below : List Link → (source count : ℕ) → Bool
is_owned_below links source zero = false
is_owned_below links source (suc n) =
    is_owned_below links source n || (not (n == source) && owns (link_at links n) (link_at links source))

abbrev pub is_owned : List Link → (source : ℕ) → Bool
is_owned links source = is_owned_below links source (length links)

abbrev pub owns_out : (out : ℕ) → Link → Bool
owns_out out link = link.is_open && slice_index_or link.outs out false

-- Two sources that own have no out in common, so the first that owns the out is the only one.
abbrev pub owner_of : List Link → (out : ℕ) → Option ℕ
owner_of links out = position (owns_out out) links

-- the source of a mark that was offered is one of the links
abbrev pub HasSource : List Link → Option Passed → Type 0
HasSource links None = Unit {0}
HasSource links (Some p) = p.source < length links
