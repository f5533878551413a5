-- The rounds that are left give the same halves.
use Rattle.std.proofs.Common.{◌≡◌, length, drop}
use Rattle.cipher.specs.Feistel.{with_parameters, halved, all_turned}
use Rattle.cipher.proofs.feistel.Setting.run.Given as goal

abbrev pub invariant-loop-round : goal.invariant-loop-round
invariant-loop-round g l =
    let F = with_parameters g.F.RoundFunction.function l.self.passphrase.now l.self.parameters in
    record {
      room : length l.mask.bytes.now ≡ l.half;
      left : all_turned F (drop l.round-index l.fn.order) (halved l.secret) ≡ all_turned F l.fn.order (halved l.initial.secret);
    }
