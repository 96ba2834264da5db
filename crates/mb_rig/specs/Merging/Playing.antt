-- What a run has played: each call of the router is a step of its marks and of their tags.
--
--   Play                     what was taken, what is held of each source, what was just offered, and what has passed,
--                            each with the moment of its passing
--   takes p passes t         a tag is taken
--   offered_goes, head_goes  the tag just offered passes, or the first held one of a source
--   Plays m p                the router holds, and is offered, the marks of the tags
--   InTurn p                 none passes twice, none is lost, each source's order is kept
--   report_of passed         the lines that what has passed completes
--   begin_of p source        the key of the last SysEx start that has passed of a source
--   RisesFrom n passed m     moments of passing don't fall, from one on to another
use Rattle.std.specs.Prelude.{◌≡◌, ◌≤◌, ℕ, Bool, not, ◌&&◌, ◌==◌, if◌then◌else◌, List, [], ◌∷◌, ◌++◌}
use Rattle.std.specs.Prelude.{map, filter, flat_map, drop, Option, Some, None}
use Rattle.mb_message.specs.Signs.{Sign, ShortSign, RtSign, OpenSign, ByteSign, EndSign, AbortSign, sign_of}
use Rattle.mb_merge.specs.declared.source.Held.{Held}
use Rattle.mb_merge.specs.declared.router.Passed.{Passed}
use Rattle.mb_merge.specs.Links.{Merger, link_of}
use Rattle.mb_merge.specs.Calls.{one}
use Rattle.mb_rig.specs.Merging.Lines.{Key, Line, no_key}
use Rattle.mb_rig.specs.Merging.Report.{Passing}
use Rattle.mb_rig.specs.Merging.Tags.{Tag, is_realtime_sign}

-- what has passed, the moment of its passing with each
pub record PassedTag : Type 0 where
  pub tag : Tag
  pub moment : ℕ

pub record Play : Type 0 where
  pub taken : List Tag
  pub held : ℕ → List Tag
  pub offered : Option Tag
  pub passed : List PassedTag

abbrev pub with_held : (ℕ → List Tag) → (source : ℕ) → List Tag → ℕ → List Tag
with_held held source ts other = if other == source then ts else held other

abbrev pub takes : Play → (passes : Bool) → Tag → Play
takes p passes t = record {
  taken = p.taken ++ t ∷ [];
  held = if passes then p.held else with_held p.held t.source (p.held t.source ++ t ∷ []);
  offered = if passes then Some t else None;
  passed = p.passed;
}

-- the tag just offered passes
abbrev pub offered_goes : Play → Tag → (moment : ℕ) → Play
offered_goes p t moment = record p { offered = None; passed = p.passed ++ record { tag = t; moment = moment } ∷ [] }

-- the first held one of a source
abbrev pub head_goes : Play → Tag → (moment : ℕ) → Play
head_goes p t moment = record p {
  held = with_held p.held t.source (drop 1 (p.held t.source));
  passed = p.passed ++ record { tag = t; moment = moment } ∷ [];
}

abbrev pub begins_play : Play
begins_play = record { taken = []; held = λ source. []; offered = None; passed = [] }

-- a mark as it is held or passes, and the tag's
abbrev pub IsHeldMark : Held → Tag → Type 0
IsHeldMark h t = (h.arrival ≡ t.key.moment) × (sign_of h.mark ≡ t.sign)

abbrev pub AreHeld : (source : ℕ) → List Held → List Tag → Type 0
AreHeld source [] [] = Unit {0}
AreHeld source (h ∷ hs) (t ∷ ts) = (IsHeldMark h t × (t.source ≡ source) × (t.key.link ≡ source)) × AreHeld source hs ts
AreHeld source [] (t ∷ ts) = ⊥
AreHeld source (h ∷ hs) [] = ⊥

abbrev pub IsOffered : Option Passed → Option Tag → Type 0
IsOffered None None = Unit {0}
IsOffered (Some p) (Some t) = (p.source ≡ t.source) × (p.arrival ≡ t.key.moment) × (sign_of p.mark ≡ t.sign) ×
    (t.key.link ≡ t.source)
IsOffered None (Some t) = ⊥
IsOffered (Some p) None = ⊥

pub record Plays (m : Merger) (p : Play) : Type 0 where
  pub held : (source : ℕ) → AreHeld source (link_of m source).held (p.held source)
  pub offered : IsOffered m.offered p.offered

-- a tag that keeps its turn, and one that doesn't
abbrev pub tag_in_turn : (source : ℕ) → Tag → Bool
tag_in_turn source t = (t.source == source) && not (is_realtime_sign t.sign)

abbrev pub tag_at_once : (source : ℕ) → Tag → Bool
tag_at_once source t = (t.source == source) && is_realtime_sign t.sign

abbrev pub tags_passed : Play → List Tag
tags_passed p = map (λ (x : PassedTag). x.tag) p.passed

-- none twice, none lost, each source's order
pub record InTurn (p : Play) : Type 0 where
  pub turns : (source : ℕ) → filter (tag_in_turn source) p.taken ≡ filter (tag_in_turn source) (tags_passed p) ++
      (filter (tag_in_turn source) (one p.offered) ++ p.held source)
  pub realtimes : (source : ℕ) → filter (tag_at_once source) p.taken ≡ filter (tag_at_once source) (tags_passed p) ++
      filter (tag_at_once source) (one p.offered)

-- the lines of the report: those that what has passed completes
abbrev pub line_of : (moment : ℕ) → Option Line → List Passing
line_of moment None = []
line_of moment (Some line) = record { line = line; moment = moment } ∷ []

abbrev pub report_of : List PassedTag → List Passing
report_of ps = flat_map (λ (x : PassedTag). line_of x.moment x.tag.line) ps

-- the key of the last start among marks, or one that stood before
abbrev pub begin_at : (begin key : Key) → Sign → Key
begin_at begin key OpenSign = key
begin_at begin key (ShortSign s a b) = begin
begin_at begin key (RtSign b) = begin
begin_at begin key (ByteSign b) = begin
begin_at begin key EndSign = begin
begin_at begin key AbortSign = begin

abbrev pub begin_then : Key → Tag → Key
begin_then begin t = begin_at begin t.key t.sign

abbrev pub begin_behind : Key → List Tag → Key
begin_behind begin [] = begin
begin_behind begin (t ∷ ts) = begin_behind (begin_then begin t) ts

-- of what has passed of a source
abbrev pub begin_of : Play → (source : ℕ) → Key
begin_of p source = begin_behind (no_key source) (filter (tag_in_turn source) (tags_passed p))

-- Moments of passing don't fall, and none is above this one.
abbrev pub RisesFrom : (last : ℕ) → List PassedTag → (most : ℕ) → Type 0
RisesFrom last [] most = last ≤ most
RisesFrom last (x ∷ xs) most = (last ≤ x.moment) × RisesFrom x.moment xs most
