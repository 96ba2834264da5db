-- What a rig that was read has.
--
--   IsRig s     1 to 16 links and as many outs, of specs that there are; each route is from a link to an out, and
--               none stands twice
use Rattle.std.specs.Prelude.{List, [], length, map}
use Rattle.mb_carrier.specs.declared.spec.Spec.{Spec}
use Rattle.mb_carrier.specs.Word.{AreSpecs}
use Rattle.mb_merge.specs.Opening.{AreCounts, AreRoutes}
use Rattle.mb_rig.specs.RigText.{RigPort, Setup}

abbrev pub specs_of : List RigPort → List Spec
specs_of ports = map (λ p. p.spec) ports

pub record IsRig (s : Setup) : Type 0 where
  pub counts : AreCounts (length s.ins) (length s.outs)
  pub links : AreSpecs (specs_of s.ins)
  pub outs : AreSpecs (specs_of s.outs)
  pub routes : AreRoutes (length s.ins) (length s.outs) [] s.routes
