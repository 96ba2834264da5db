-- A hop in the midst of a piece: what is read of it is written into a buffer, as far as that has room and the moment
-- stays.
--
--   PutSome ..       a front of some marks was put, all at one moment, and data of a SysEx is left
--   Flows ..         of these bytes a reader took a front; its marks were put, `puts`, but for those that it owes;
--                    what was written
--                    of them stands in what was handed on before, `base`, and in what the buffer holds; the rest has
-- one moment
--   UsedUp ..       all of the bytes are read and written
--   OnItsWay ..      one or the other, by what is left of the piece: nothing, where all of it is read and written;
--                    `at` says at
--                    which moment the reader's last event stands, where one was set
--   AllAt apart ..   where moments are kept apart, these are marks of this moment
--   More .. puts p   some marks more were put; where moments are kept apart, all of this moment
--   unread left      how many bytes of it aren't read; work: how much is left to do, by which a caller's loop ends
use Rattle.std.specs.Prelude.{◌≡◌, ℕ, ◌+◌, ◌*◌, ◌^◌, Bool, true, List, ◌++◌, map, length, Option, Some, None}
use Rattle.mb_message.specs.Signs.{Sign, ByteSign, signs_of_event}
use Rattle.mb_stream.specs.Told.{Known}
use Rattle.mb_stream.specs.Puts.{Put, puts_at}
use Rattle.mb_message.specs.Front.{IsFront}
use Rattle.mb_carrier.specs.Carrier.{known, puts_known, puts_so_far, live}
use Rattle.mb_carrier.specs.Hop.{Puts, HopStands, HaveMoment}
use Rattle.mb_carrier.specs.declared.piece.Piece.{Piece}
use Rattle.mb_carrier.specs.declared.spec.Spec.{Spec}

pub record PutSome (live : List Put → List ℕ) (was now : List Put → Type 0) (at : ℕ) (signs : List Sign)
    (left held kept : List ℕ) : Type 0 where
  pub done : List Sign
  pub cut : signs ≡ done ++ map ByteSign left
  pub goes : (before : List Put) (base : List ℕ) → was before → live before ≡ base ++ held →
      Puts live was now (puts_at at done) held kept before base

pub record Flows (s t : Spec) (moments : ℕ → ℕ) (moment : ℕ) (reader : List ℕ → List Known → Type 0)
    (writer : List Put → Type 0)
    (bytes rest : List ℕ) (owes puts : List Put) (base held : List ℕ) : Type 0 where
  pub taken : List ℕ
  pub cut : bytes ≡ taken ++ rest
  pub told : List Known
  pub reads : reader taken told
  pub front : IsFront told (known s bytes)
  pub told_are : puts_known s moments told ≡ puts ++ owes
  pub writes : writer puts
  pub live_is : live t puts ≡ base ++ held
  pub have : HaveMoment moments (length taken) (length rest) moment

pub record UsedUp (s t : Spec) (moments : ℕ → ℕ) (reader : List ℕ → List Known → Type 0) (writer : List Put → Type 0)
    (bytes : List ℕ) (puts : List Put) (base held : List ℕ) : Type 0 where
  pub stands : HopStands s moments reader writer bytes
  pub puts_are : puts ≡ puts_so_far s moments bytes
  pub live_is : live t puts ≡ base ++ held

abbrev pub OnItsWay : (s t : Spec) (moments : ℕ → ℕ) (at : ℕ → ℕ) (reader : List ℕ → List Known → Type 0)
    (writer : List Put → Type 0) (bytes : List ℕ) (left : Option Piece) (puts : List Put) (base held : List ℕ) → Type 0
OnItsWay s t moments at reader writer bytes (Some p) puts base held =
    Flows s t moments p.moment reader writer bytes p.rest.now
    (puts_at (at p.moment) (signs_of_event p.ev)) puts base held
OnItsWay s t moments at reader writer bytes None puts base held = UsedUp s t moments reader writer bytes puts base held

abbrev pub AllAt : (apart : Bool) (at : ℕ) (done : List Put) → Type 0
AllAt apart at done = apart ≡ true → (signs : List Sign) × (done ≡ puts_at at signs)

abbrev pub More : (apart : Bool) (at : ℕ) (puts : List Put) (claim : List Put → Type 0) → Type 0
More apart at puts claim = (done : List Put) × AllAt apart at done × claim (puts ++ done)

abbrev pub unread : Option Piece → ℕ
unread (Some p) = length p.rest.now
unread None = 0

abbrev pub work : (owed : ℕ) → Option Piece → ℕ
work owed (Some p) = 1 + ((2 * length p.rest.now + owed) * 2 ^ 64 + length (signs_of_event p.ev))
work owed None = 0

-- what is left has the moment that the whole had
abbrev pub HasMoment : ℕ → Option Piece → Type 0
HasMoment moment (Some p) = p.moment ≡ moment
HasMoment moment None = Unit {0}
