-- The one way out of `deal_laws`.
use Rattle.sharing.proofs.DigestLaws as Curves
use Rattle.lawful.proofs.DealTheorems.{opening_laws, deal_laws}
use Rattle.lawful.proofs.deal_laws.Goals as goal

pub returns : goal.returns
returns g c =
    let d = g.D.KeyedDigest in
    let m = g.met.D.KeyedDigest in
    let f = g.F.RoundFunction in
    let curves = Curves.laws d.keyed d.size m.small m.sized m.bytes in
    record {
      opening = opening_laws d.keyed curves f.function g.met.F.RoundFunction.bytes;
      deals = deal_laws d.keyed curves f.function g.met.F.RoundFunction.bytes;
    }
