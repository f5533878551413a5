-- The shares so far, and those that the bytes left give, are the shares of all that was drawn.
use Rattle.std.proofs.Common.{◌≡◌, ◌-◌, ◌*◌, ◌≤◌, ◌++◌, length, take}
use Rattle.std.specs.List.{range_with_len}
use Rattle.sharing.specs.Values.{plain, shares_of}
use Rattle.sharing.proofs.dealing.fixing_shares.Given as goal

abbrev pub invariant-loop-i : goal.invariant-loop-i
invariant-loop-i l =
    record {
      size : l.i-iterator.iter.size ≡ length l.secret;
      low : l.i-iterator.count ≤ l.t - 2;
      left : length l.i-iterator.iter.rest.now ≡ (l.t - 2 - l.i-iterator.count) * length l.secret;
      room : length l.shares ≡ 16;
      same : shares_of (length l.secret) (range_with_len 0 (l.t - 2)) l.drawn
          ≡ plain (take l.i-iterator.count l.shares) ++ shares_of (length l.secret) (range_with_len l.i-iterator.count (l.t - 2 - l.i-iterator.count)) l.i-iterator.iter.rest.now;
    }
