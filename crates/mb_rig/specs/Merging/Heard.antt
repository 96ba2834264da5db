-- What passes to an out, mark by mark, against the lines that it completes.
--
--   LinesFit unders ts       each tag's line is what its source's marks so far say
-- Follows owner ts the tags may stand at an out one after another; the owner is the source whose SysEx is open
--                            there
--   OutsKnown goes open ts   of each out: what went there follows, and its owner is the open source that goes there
--   MayGo goes open t        a mark may pass now: what the router knows of it
use Rattle.std.specs.Prelude.{◌≡◌, ℕ, Bool, true, false, ◌==◌, if◌then◌else◌, List, [], ◌∷◌, filter, Option, Some, None}
use Rattle.mb_message.specs.Signs.{Sign, ShortSign, RtSign, OpenSign, ByteSign, EndSign, AbortSign, suits_sign}
use Rattle.mb_rig.specs.Merging.Lines.{Line}
use Rattle.mb_rig.specs.Merging.Tags.{Tag, Under, line_at, under_after}

abbrev pub with_under : (ℕ → Under) → (source : ℕ) → Under → ℕ → Under
with_under unders source u other = if other == source then u else unders other

-- what the marks of a source say behind a tag of it; the data bytes that a real-time mark stands among stay
abbrev pub unders_after : (ℕ → Under) → Tag → ℕ → Under
unders_after unders t = with_under unders t.source (under_after (unders t.source) t.key t.sign)

-- the event alone: an early real-time mark changes places and keys, and no data
pub record LineFitsData (u : Under) (t : Tag) : Type 0 where
  pub events : (line : Line) → t.line ≡ Some line → (other : Line) → line_at t.source u t.key t.sign ≡ Some other →
      line.event ≡ other.event
  pub some : (other : Line) → line_at t.source u t.key t.sign ≡ Some other → (line : Line) × (t.line ≡ Some line)
  pub none : line_at t.source u t.key t.sign ≡ None → t.line ≡ None

abbrev pub LinesFit : (ℕ → Under) → List Tag → Type 0
LinesFit unders [] = Unit {0}
LinesFit unders (t ∷ ts) = LineFitsData (unders t.source) t × LinesFit (unders_after unders t) ts

-- the owner of an out behind a mark
abbrev pub owner_behind : Option ℕ → (source : ℕ) → Sign → Option ℕ
owner_behind o source OpenSign = Some source
owner_behind o source EndSign = None
owner_behind o source AbortSign = None
owner_behind o source (ShortSign s a b) = o
owner_behind o source (RtSign b) = o
owner_behind o source (ByteSign b) = o

-- a mark that isn't real-time comes of the owner where there is one, and is no data and no end where there is none
abbrev pub MayFollow : Option ℕ → (source : ℕ) → Sign → Type 0
MayFollow o source (RtSign b) = Unit {0}
MayFollow o source (ShortSign s a b) = o ≡ None
MayFollow o source OpenSign = o ≡ None
MayFollow o source (ByteSign b) = o ≡ Some source
MayFollow o source EndSign = o ≡ Some source
MayFollow o source AbortSign = o ≡ Some source

abbrev pub Follows : Option ℕ → List Tag → Type 0
Follows o [] = Unit {0}
Follows o (t ∷ ts) = MayFollow o t.source t.sign × Follows (owner_behind o t.source t.sign) ts

-- the data of the owner's SysEx
abbrev pub open_data : (ℕ → Under) → Option ℕ → Option (List ℕ)
open_data unders None = None
open_data unders (Some o) = Some (unders o).data_bytes

abbrev pub end_unders : (ℕ → Under) → List Tag → ℕ → Under
end_unders unders [] = unders
end_unders unders (t ∷ ts) = end_unders (unders_after unders t) ts

abbrev pub end_owner : Option ℕ → List Tag → Option ℕ
end_owner o [] = o
end_owner o (t ∷ ts) = end_owner (owner_behind o t.source t.sign) ts

-- whether a SysEx is open behind a mark
abbrev pub opens_sign : Bool → Sign → Bool
opens_sign before OpenSign = true
opens_sign before EndSign = false
opens_sign before AbortSign = false
opens_sign before (ShortSign s a b) = before
opens_sign before (RtSign b) = before
opens_sign before (ByteSign b) = before

-- Of each out: what went there follows, and its owner is the open source that goes there, if there is one.
pub record OutsKnown (goes : ℕ → ℕ → Bool) (is_open : ℕ → Bool) (ts : List Tag) : Type 0 where
  pub follows : (o : ℕ) → Follows None (filter (λ (t : Tag). goes o t.source) ts)
  pub closed : (o s : ℕ) → end_owner None (filter (λ (t : Tag). goes o t.source) ts) ≡ None → goes o s ≡ true →
      is_open s ≡ false
  pub owner : (o s : ℕ) → end_owner None (filter (λ (t : Tag). goes o t.source) ts) ≡ Some s →
      (is_open s ≡ true) × (goes o s ≡ true)

-- a mark may pass now: what the router knows of it
pub record MayGo (goes : ℕ → ℕ → Bool) (is_open : ℕ → Bool) (t : Tag) : Type 0 where
  -- a message or a start: its source is closed, and no open one shares an out
  pub outside : suits_sign true t.sign ≡ false → (is_open t.source ≡ false) ×
      ((o s : ℕ) → goes o t.source ≡ true → goes o s ≡ true → is_open s ≡ true → ⊥)
  -- data, an end or a break: its source is open
  pub inside : suits_sign false t.sign ≡ false → is_open t.source ≡ true

abbrev pub open_after : (ℕ → Bool) → Tag → ℕ → Bool
open_after is_open t s = if s == t.source then opens_sign (is_open s) t.sign else is_open s
