-- The rest, the byte 0x80, zeros and the number of bits.
use Rattle.std.proofs.Common.{◌≡◌, ℕ, ◌+◌, ◌-◌, ◌*◌, ◌≤◌, suc, List, ◌++◌, length, take, drop, set, ap, ◌∙◌, arith}
use Rattle.std.proofs.lemmas.List.{length-set, length-append, length-drop, length-replicate}
use Rattle.std.proofs.lemmas.Slice.{take-put_mid}
use Rattle.digest.specs.Sha256.{zero_bytes, be64}
use Rattle.digest.specs.Padding.{padded_space, marked_first, be64-mod}
use Rattle.digest.proofs.sha256.blocks.pad.Goals as goal
use Rattle.digest.proofs.sha256.blocks.pad.Goals.{then-at-lt56, else-at-lt56}

pub returns-clause-holds : goal.returns-clause-holds
returns-clause-holds c =
    let rest : List ℕ = c.args.rest.now in
    let space : List ℕ = c.args.space.now in
    let copied : List ℕ = c.copy_from_slice.new.self in
    let n : ℕ = length rest in
    let total : ℕ = c.args.total in
    let end : ℕ = c.if-at-lt56.end in
    let place : end - 8 ≡ n + suc (zero_bytes total) =
    elim c.if-at-lt56.branch [ then-at-lt56 w ↦ omega (arith, w.end-is, w.if-at-lt56.true) | else-at-lt56 w ↦ omega (arith, w.end-is, w.if-at-lt56.false) ] in
    let low : 8 ≤ end = elim c.if-at-lt56.branch [ then-at-lt56 w ↦ omega (arith, w.end-is) | else-at-lt56 w ↦ omega (arith, w.end-is) ] in
    let top : end ≤ 128 = elim c.if-at-lt56.branch [ then-at-lt56 w ↦ omega (arith, w.end-is) | else-at-lt56 w ↦ omega (arith, w.end-is) ] in
    let eight : c.copy_from_slice-2.new.self ≡ be64 (8 * total) = c.copy_from_slice-2.ensures.after ∙ c.to_be_bytes.ensures ∙ be64-mod total in
    let l1 = length-set space n 128 in
    let l2 = length-append copied (drop n (set space n 128)) in
    let l3 = length-drop n (set space n 128) in
    let l4 : length copied ≡ n = ap length c.copy_from_slice.ensures.after in
    let l5 : length space ≡ 128 = ap length c.requires.clear ∙ length-replicate {A = ℕ} 128 0 in
    take-put_mid (end - 8) _ _ c.copy_from_slice-2.new.self end (omega (arith, ap length eight, low)) (omega (arith, l1, l2, l3, l4, l5, top))
    ∙ ap (λ s. take (end - 8) s ++ c.copy_from_slice-2.new.self) (marked_first copied space n 128 l4)
    ∙ padded_space rest copied space _ total (127 - n) (end - 8) c.copy_from_slice.ensures.after c.requires.clear eight (omega (arith, c.requires.left)) place (omega (arith, place, top))
