-- An out: the handle that it writes to, and the writer of its port.
--
--   mark_byte mark         the data byte that a mark is, or 0
--   OutletStands ..        it was put these marks at their moments, and flushed between them, and its handle has what
--                          is known of how they are written
--   OutletGave ..          it stands for a longer list now, its handle got what that has beyond the shorter one, and
--                          nothing else of the desk changed
--   OutletGavePart ..      its handle got a beginning of that
--   OutletEnded ..         its handle has all that the list is written as
use Rattle.std.specs.Prelude.{◌≡◌, ℕ, Bool, true, List, ◌++◌, IsTrue}
use Rattle.mb_message.specs.Front.{IsPart}
use Rattle.mb_message.specs.declared.mark.Mark.{Mark}
use Rattle.mb_message.specs.declared.mark.Mark.TheVariants as mark
use Rattle.mb_stream.specs.Puts.{Put}
use Rattle.mb_outside.specs.Contents.{Contents, is_writable}
use Rattle.mb_outside.specs.Taking.{Wrote}
use Rattle.mb_carrier.specs.Carrier.{live, written}
use Rattle.mb_carrier.specs.Port.{WriterStands, writer_spec}
use Rattle.mb_carrier.specs.declared.spec.Spec.{Spec}
use Rattle.mb_rig.specs.declared.outlet.Outlet.{Outlet}

abbrev pub mark_byte : Mark → ℕ
mark_byte (mark.Byte b) = b
mark_byte (mark.Short s) = 0
mark_byte (mark.Rt r) = 0
mark_byte mark.Open = 0
mark_byte mark.End = 0
mark_byte mark.Abort = 0

abbrev pub outlet_spec : Outlet → Spec
outlet_spec o = writer_spec o.writer

pub record OutletStands {S : Type 0} (tells : Bool) (contents : S → Contents) (o : Outlet) (at : S)
    (puts : List Put) : Type 0 where
  pub stands : WriterStands o.writer puts
  pub writable : IsTrue tells → is_writable (contents at) o.handle ≡ true
  pub has : IsTrue tells → (contents at).written o.handle ≡ live (outlet_spec o) puts

pub record OutletGave {S : Type 0} (tells : Bool) (contents : S → Contents) (read_faults : S → ℕ) (old new : Outlet)
    (puts more : List Put) (before after : S) : Type 0 where
  pub given : List ℕ
  pub beyond : live (outlet_spec old) more ≡ live (outlet_spec old) puts ++ given
  pub wrote : Wrote tells contents read_faults old.handle before given after
  pub stands : OutletStands tells contents new after more

pub record OutletGavePart {S : Type 0} (tells : Bool) (contents : S → Contents) (read_faults : S → ℕ) (handle : ℕ)
    (less more : List ℕ) (before after : S) : Type 0 where
  pub given : List ℕ
  pub part : IsPart (less ++ given) more
  pub wrote : Wrote tells contents read_faults handle before given after

pub record OutletEnded {S : Type 0} (tells : Bool) (contents : S → Contents) (read_faults : S → ℕ) (o : Outlet)
    (puts : List Put) (before after : S) : Type 0 where
  pub given : List ℕ
  pub beyond : written (outlet_spec o) puts ≡ live (outlet_spec o) puts ++ given
  pub wrote : Wrote tells contents read_faults o.handle before given after
  pub has : IsTrue tells → (contents after).written o.handle ≡ written (outlet_spec o) puts
