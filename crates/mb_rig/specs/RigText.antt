-- The text of a rig: the project's own.
--
--   named word_of xs word      of these the first that has this word
--   spec_of, track_of          the spec of a word; the track, 0 to 255 in decimal without leading zeros
--   Statement, statement line  what a line says
--   RigPort, Setup             a link or an out; the links, the outs and the routes of some lines
--   why_not setup s            what is wrong with a line that stands behind these: the first cause
--   with_line setup s          these, and what a right line adds
--   Outcome, rig_of text       the rig, or the number and the cause of the first faulty line
--   wants_memory text          the first line that says something isn't faulty
--   why_word cause             the word that a cause is printed as
use Rattle.std.specs.Prelude.{ℕ, ◌+◌, Bool, true, false, not, ◌&&◌, ◌||◌, ◌==◌, nat_lt, nat_le, if◌then◌else◌}
use Rattle.std.specs.Prelude.{List, [], ◌∷◌, ◌++◌, length, map, position, Option, Some, None, codes, bytes_eq, decimal}
use Rattle.std.specs.List.{list_any, list_all, range_with_len}
use Rattle.mb_text.specs.Text.{lines, words, is_printed}
use Rattle.mb_carrier.specs.Word.{word_of}
use Rattle.mb_merge.specs.Opening.{stands_in}
use Rattle.mb_carrier.specs.declared.spec.Spec.{Spec}
use Rattle.mb_carrier.specs.declared.spec.Spec.TheVariants as spec
use Rattle.mb_rig.specs.declared.fault.Why.{Why}
use Rattle.mb_rig.specs.declared.fault.Why.TheVariants as why

-- the words of causes

abbrev pub why_word : Why → List ℕ
why_word why.Long = codes "long"
why_word why.Words = codes "words"
why_word why.Carrier = codes "carrier"
why_word why.Name = codes "name"
why_word why.NameTwice = codes "name-twice"
why_word why.Port = codes "port"
why_word why.RouteTwice = codes "route-twice"
why_word why.Count = codes "count"

-- words

abbrev pub named : {A : Type 0} → (A → List ℕ) → List A → (word : List ℕ) → Option A
named word_of [] word = None
named word_of (x ∷ xs) word = if bytes_eq (word_of x) word then Some x else named word_of xs word

-- the cables of USB, the ports of FireWire, the sizes of BLE-MIDI packets
abbrev pub cables : List Spec
cables = map spec.Usb (range_with_len 0 16)

abbrev pub fire_ports : List Spec
fire_ports = map spec.Fire (range_with_len 0 64)

abbrev pub sizes : List Spec
sizes = map spec.Ble (range_with_len 5 508)

abbrev pub all_specs : List Spec
all_specs = spec.Din ∷ (cables ++ (fire_ports ++ sizes))

-- `ble` names what `ble/20` does
abbrev pub long_word : List ℕ → List ℕ
long_word word = if bytes_eq word (codes "ble") then word_of (spec.Ble 20) else word

unfoldable pub spec_of : List ℕ → Option Spec
spec_of word = named word_of all_specs (long_word word)

unfoldable pub track_of : List ℕ → Option ℕ
track_of word = named decimal (range_with_len 0 256) word

-- lines

pub data Statement : Type 0 where
  Remark : Statement
  Link : (name word file : List ℕ) (track : ℕ) → Statement
  Outlet : (name word file : List ℕ) → Statement
  Route : (from to : List ℕ) → Statement
  Unfit : Statement

abbrev pub begins_hash : List ℕ → Bool
begins_hash [] = false
begins_hash (b ∷ bs) = b == 35

abbrev pub is_file : List ℕ → Bool
is_file file = nat_le (length file) 255

abbrev pub link_by : (name word file : List ℕ) → (track : Option ℕ) → Statement
link_by name word file None = Unfit
link_by name word file (Some track) = if is_file file then Link name word file track else Unfit

-- by its first word and the others
abbrev pub statement_by : (first : List ℕ) → List (List ℕ) → Statement
statement_by first [] = Unfit
statement_by first (a ∷ []) = Unfit
statement_by first (a ∷ b ∷ []) = if bytes_eq first (codes "route") then Route a b else Unfit
statement_by first (a ∷ b ∷ c ∷ []) =
    if bytes_eq first (codes "in") then link_by a b c (Some 0)
    else (if bytes_eq first (codes "out") && is_file c then Outlet a b c else Unfit)
statement_by first (a ∷ b ∷ c ∷ d ∷ []) =
    if bytes_eq first (codes "in") then link_by a b c (track_of d) else Unfit
statement_by first (a ∷ b ∷ c ∷ d ∷ e ∷ ws) = Unfit

abbrev pub statement_of : (printed : Bool) → List (List ℕ) → Statement
statement_of printed [] = Remark
statement_of printed (w ∷ ws) =
    if begins_hash w then Remark else (if printed then statement_by w ws else Unfit)

abbrev pub statement : (line : List ℕ) → Statement
statement line = statement_of (is_printed line) (words line)

-- the links, the outs and the routes so far

pub record RigPort : Type 0 where
  pub name : List ℕ
  pub spec : Spec
  pub file : List ℕ
  pub track : ℕ

-- a route is a pair of places, of its link and of its out
pub record Setup : Type 0 where
  pub ins : List RigPort
  pub outs : List RigPort
  pub routes : List (ℕ × ℕ)

abbrev pub no_setup : Setup
no_setup = record { ins = []; outs = []; routes = [] }

-- 'a' to 'z', '0' to '9', '_'
abbrev pub is_name_byte : ℕ → Bool
is_name_byte b = (nat_le 97 b && nat_le b 122) || (nat_le 48 b && nat_le b 57) || (b == 95)

abbrev pub is_name : List ℕ → Bool
is_name name = nat_le 1 (length name) && nat_le (length name) 16 && list_all is_name_byte name

abbrev pub is_named : (name : List ℕ) → RigPort → Bool
is_named name p = bytes_eq p.name name

abbrev pub has_name : (name : List ℕ) → List RigPort → Bool
has_name name ps = list_any (is_named name) ps

abbrev pub has_file : (file : List ℕ) → List RigPort → Bool
has_file file ps = list_any (λ p. bytes_eq p.file file) ps

-- this track of this file
abbrev pub has_track : (file : List ℕ) → (track : ℕ) → List RigPort → Bool
has_track file track ps = list_any (λ p. bytes_eq p.file file && (p.track == track)) ps

-- two links may read one file, each a track of its own
abbrev pub link_stands : Setup → (name file : List ℕ) → (track : ℕ) → Bool
link_stands s name file track =
    has_name name s.ins || has_name name s.outs || has_track file track s.ins || has_file file s.outs

abbrev pub out_stands : Setup → (name file : List ℕ) → Bool
out_stands s name file = has_name name s.ins || has_name name s.outs || has_file file s.ins || has_file file s.outs

-- of a link or an out, which stands behind so many
abbrev pub port_why : Option Spec → (name : List ℕ) → (stands : Bool) → (count : ℕ) → Option Why
port_why None name stands count = Some why.Carrier
port_why (Some s) name stands count =
    if not (is_name name) then Some why.Name
    else (if stands then Some why.NameTwice else (if nat_lt count 16 then None else Some why.Count))

abbrev pub place_of : (name : List ℕ) → List RigPort → Option ℕ
place_of name ps = position (is_named name) ps

abbrev pub route_why : List (ℕ × ℕ) → (from to : Option ℕ) → Option Why
route_why routes None to = Some why.Port
route_why routes (Some from) None = Some why.Port
route_why routes (Some from) (Some to) = if stands_in (from, to) routes then Some why.RouteTwice else None

abbrev pub why_not : Setup → Statement → Option Why
why_not s Remark = None
why_not s Unfit = Some why.Words
why_not s (Link name word file track) = port_why (spec_of word) name (link_stands s name file track) (length s.ins)
why_not s (Outlet name word file) = port_why (spec_of word) name (out_stands s name file) (length s.outs)
why_not s (Route from to) = route_why s.routes (place_of from s.ins) (place_of to s.outs)

abbrev pub with_port : List RigPort → (name : List ℕ) → Option Spec → (file : List ℕ) → (track : ℕ) → List RigPort
with_port ps name None file track = ps
with_port ps name (Some s) file track = ps ++ record { name = name; spec = s; file = file; track = track } ∷ []

abbrev pub with_route : List (ℕ × ℕ) → (from to : Option ℕ) → List (ℕ × ℕ)
with_route routes None to = routes
with_route routes (Some from) None = routes
with_route routes (Some from) (Some to) = routes ++ (from, to) ∷ []

abbrev pub with_line : Setup → Statement → Setup
with_line s Remark = s
with_line s Unfit = s
with_line s (Link name word file track) = record s { ins = with_port s.ins name (spec_of word) file track }
with_line s (Outlet name word file) = record s { outs = with_port s.outs name (spec_of word) file 0 }
with_line s (Route from to) = record s { routes = with_route s.routes (place_of from s.ins) (place_of to s.outs) }

-- texts

pub data Outcome : Type 0 where
  Right : Setup → Outcome
  Faulty : (line : ℕ) (cause : Why) → Outcome

-- behind the last line, this being the number of the next
abbrev pub ended_rig : (number : ℕ) → Setup → Outcome
ended_rig n s = if (length s.ins == 0) || (length s.outs == 0) then Faulty n why.Count else Right s

abbrev pub line_then : (number : ℕ) → Option Why → (behind : Outcome) → Outcome
line_then n (Some cause) behind = Faulty n cause
line_then n None behind = behind

-- the lines from this number on
abbrev pub rig_from : (number : ℕ) → Setup → List (List ℕ) → Outcome
rig_from n s [] = ended_rig n s
rig_from n s (line ∷ rest) =
    line_then n (why_not s (statement line)) (rig_from (n + 1) (with_line s (statement line)) rest)

abbrev pub most_text : ℕ
most_text = 65536

abbrev pub rig_of : (text : List ℕ) → Outcome
rig_of text = if nat_lt most_text (length text) then Faulty 0 why.Long else rig_from 1 no_setup (lines text)

-- where memory is wanted

abbrev pub is_remark : Statement → Bool
is_remark Remark = true
is_remark Unfit = false
is_remark (Link name word file track) = false
is_remark (Outlet name word file) = false
is_remark (Route from to) = false

abbrev pub is_right : Option Why → Bool
is_right None = true
is_right (Some cause) = false

abbrev pub begins_right : List (List ℕ) → Bool
begins_right [] = false
begins_right (line ∷ rest) =
    if is_remark (statement line) then begins_right rest else is_right (why_not no_setup (statement line))

abbrev pub wants_memory : (text : List ℕ) → Bool
wants_memory text = nat_le (length text) most_text && begins_right (lines text)
