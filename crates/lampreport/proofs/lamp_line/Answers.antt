-- `lampreport::lamp_line` meets its contract. Assumes nothing.
use Prim.Native.Nat.{ℕ, ◌≤◌, min}
use mathlib.Core.Path.{◌≡◌, sym, ap₂, ◌∙◌}
use mathlib.Core.List.{List, ◌++◌}
use native.Mathlib.Omega.{arith}
use lib.ListN.{length, take}
use lib.Seq.{length-take-le}
use Rattle.pilots.specs.Pilots.{pilots_most}
use Rattle.lampreport.specs.LampLine.{dark_word, spaced, dark_pilots}
use Rattle.lampreport.proofs.Lines.{line_lit, line_dark}
use Rattle.lampreport.proofs.lamp_line.Goals as goal

pub returns-then-end-start : goal.returns-then-end-start
returns-then-end-start c =
    let a = c.args in
    let first = c.put-start in
    let rest = c.put_all-end in
    let last = c.put-len in
    let dark : take rest.result rest.new.out ≡ dark_word ++ spaced (dark_pilots a.list.now a.lights.now (min a.n pilots_most)) =
    rest.ensures.line ∙ ap₂ (λ (l : List ℕ) (n : ℕ). l ++ spaced (dark_pilots a.list.now a.lights.now n)) first.ensures.line c.min-listed.ensures in
    let room : rest.result ≤ length rest.new.out = omega (arith, rest.ensures.number.1, rest.auto.out, first.auto.out) in
    let inside : last.result ≤ length last.new.out = omega (arith, last.ensures.number, last.auto.out, rest.ensures.number.1, rest.auto.out, first.auto.out) in record { text_value = line_lit a.list.now a.lights.now (min a.n pilots_most) rest.new.out rest.result dark room (omega (arith, c.if-end-start.true, first.ensures.number)) _ last.ensures.line; prefix_len = (inside, sym (length-take-le last.result last.new.out inside)) }

pub returns : goal.returns
returns c =
    let a = c.args in
    let first = c.put-start in
    let rest = c.put_all-end in
    let last = c.put-len-2 in
    let dark : take rest.result rest.new.out ≡ dark_word ++ spaced (dark_pilots a.list.now a.lights.now (min a.n pilots_most)) =
    rest.ensures.line ∙ ap₂ (λ (l : List ℕ) (n : ℕ). l ++ spaced (dark_pilots a.list.now a.lights.now n)) first.ensures.line c.min-listed.ensures in
    let room : rest.result ≤ length rest.new.out = omega (arith, rest.ensures.number.1, rest.auto.out, first.auto.out) in
    let inside : last.result ≤ length last.new.out = omega (arith, last.ensures.number, last.auto.out, rest.ensures.number.1, rest.auto.out, first.auto.out) in record { text_value = line_dark a.list.now a.lights.now (min a.n pilots_most) rest.new.out rest.result dark room (λ z. c.if-end-start.false (omega (arith, z, first.ensures.number))) _ last.ensures.line; prefix_len = (inside, sym (length-take-le last.result last.new.out inside)) }
