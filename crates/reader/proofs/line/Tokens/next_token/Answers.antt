-- One turn by state and class.
use Rattle.std.proofs.Common.{◌≡◌, ◌+◌, ◌-◌, ◌<◌, length, get_or, sym, refl, ap, ◌∙◌, subst, inl, inr, arith}
use Rattle.reader.specs.declared.line.State.TheVariants.{Between, InWord, InRemark}
use Rattle.reader.specs.declared.line.Class.{Class}
use Rattle.reader.specs.declared.line.Class.TheVariants.{Blank, Hash, Letter, Forbidden}
use Rattle.reader.specs.Line.{class_of}
use Rattle.reader.proofs.Pieces.{told, Began, went, byte-left, bytes-left, blank, hash, letter, longer}
use Rattle.reader.proofs.line.Tokens.next_token.Goals as goal
use Rattle.reader.proofs.line.Tokens.next_token.Goals.{in-Between-Blank, in-Between-Hash, in-Between-Letter, in-Between-Letter-2, in-InWord-Letter, in-InWord-Forbidden, in-InRemark-default}

pub loop-k-preserved : goal.loop-k-preserved
loop-k-preserved c =
    let line = c.args.self.now.line.now in
    let p = c.args.self.now.position in
    let k = c.loop-k.k in
    let i = p + k in
    let left : k < length line - p = omega (arith, c.loop-k-test.true, bytes-left line p) in
    let at : i < length line = omega arith in
    let next : p + (k + 1) ≡ i + 1 = omega arith in
    let class : (j : Class) → c.of.result ≡ j → j ≡ class_of (get_or line i 0) = λ j e. sym e ∙ c.of.ensures ∙ ap class_of (byte-left line p k left) in
    let turn : Began p c.match-state.state (p + (k + 1)) × (told line c.loop-k.state i ≡ told line c.match-state.state (p + (k + 1))) =
    elim c.match-state.branch [
      | in-Between-Blank w ↦ went line p i (p + (k + 1)) c.loop-k.state c.match-state.state Between Between w.in-Between-Blank.is-0 w.state-is next tt (blank line i at (class Blank w.in-Between-Blank.is-1))
      | in-Between-Hash w ↦ went line p i (p + (k + 1)) c.loop-k.state c.match-state.state Between (InRemark i) w.in-Between-Hash.is-0 w.state-is next (omega arith, omega arith) (hash line i at (class Hash w.in-Between-Hash.is-1))
      | in-Between-Letter w ↦ went line p i (p + (k + 1)) c.loop-k.state c.match-state.state Between (InWord i) w.in-Between-Letter.is-0 w.state-is next (omega arith, omega arith) (letter line i at Letter (class Letter w.in-Between-Letter.is-1) (inl refl))
      | in-Between-Letter-2 w ↦ went line p i (p + (k + 1)) c.loop-k.state c.match-state.state Between (InWord i) w.in-Between-Letter.is-0 w.state-is next (omega arith, omega arith) (letter line i at Forbidden (class Forbidden w.in-Between-Letter.is-1) (inr refl))
      | in-InWord-Letter w ↦
          let start = w.in-InWord-Letter.start in
          let began : Began p (InWord start) i = subst (λ s. Began p s i) w.in-InWord-Letter.is-0 c.loop-k.invariant.1 in
          went line p i (p + (k + 1)) c.loop-k.state c.match-state.state (InWord start) (InWord start) w.in-InWord-Letter.is-0 w.state-is next (began.0, omega arith)
          (longer line i at start (omega arith) Letter (class Letter w.in-InWord-Letter.is-1) (inl refl))
      | in-InWord-Forbidden w ↦
          let start = w.in-InWord-Forbidden.start in
          let began : Began p (InWord start) i = subst (λ s. Began p s i) w.in-InWord-Forbidden.is-0 c.loop-k.invariant.1 in
          went line p i (p + (k + 1)) c.loop-k.state c.match-state.state (InWord start) (InWord start) w.in-InWord-Forbidden.is-0 w.state-is next (began.0, omega arith)
          (longer line i at start (omega arith) Forbidden (class Forbidden w.in-InWord-Forbidden.is-1) (inr refl))
      | in-InRemark-default w ↦
          let start = w.in-InRemark-default.start in
          let began : Began p (InRemark start) i = subst (λ s. Began p s i) w.in-InRemark-default.is-0 c.loop-k.invariant.1 in
          went line p i (p + (k + 1)) c.loop-k.state c.match-state.state (InRemark start) (InRemark start) w.in-InRemark-default.is-0 w.state-is next (began.0, omega arith) refl
    ] in
    (c.loop-k.invariant.0, turn.0, sym turn.1 ∙ c.loop-k.invariant.2)
