use Rattle.mb_carrier.specs.Conversion.{none_set}
use Rattle.mb_chain.proofs.RowLemmas.{live-chain, through-chain}
use Rattle.mb_chain.proofs.laws.chain_laws.Goals as goal

pub returns-clause-live : goal.returns-clause-live
returns-clause-live c = λ first between last bytes. live-chain first between last none_set bytes

pub returns-clause-whole : goal.returns-clause-whole
returns-clause-whole c = λ first between last bytes. through-chain first between last none_set bytes
