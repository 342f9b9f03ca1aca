-- `words::word_number` meets its contract. Assumes nothing.
use mathlib.Core.Path.{◌≡◌, sym, ◌∙◌}
use mathlib.Core.Bool.{true}
use native.Mathlib.Omega.{arith}
use lib.ListN.{get_or}
use Rattle.std.proofs.lemmas.Bool.Decides.{nat_tests}
use Rattle.words.specs.Word.{is_digit}
use Rattle.words.proofs.Words.{empty_word, reading_none, reading_all, reading_other, reading_above, reading_on, digit_least}
use Rattle.words.proofs.word_number.Goals as goal
use Rattle.words.proofs.word_number.Goals.{Else-not-is_ascii_digit}

-- where the byte has been tried, it is a digit
tried : (c : Else-not-is_ascii_digit) → is_digit (get_or c.args.word.now c.loop-byte.byte-index 0) ≡ true
unfolding is_digit
tried c = sym c.is_ascii_digit.ensures.value ∙ c.if-not-is_ascii_digit.false

pub returns-then-is_empty : goal.returns-then-is_empty
returns-then-is_empty c = empty_word _ _ (grind (arith, nat_tests))

pub loop-byte-init : goal.loop-byte-init
loop-byte-init c = reading_none _ _ (grind (arith, nat_tests))

pub returns-then-not-is_ascii_digit : goal.returns-then-not-is_ascii_digit
unfolding is_digit
returns-then-not-is_ascii_digit c =
    reading_other c.loop-byte.invariant c.loop-byte-test.true (sym c.is_ascii_digit.ensures.value ∙ c.if-not-is_ascii_digit.true)

pub with_digit-next-requires : goal.with_digit-next-requires
with_digit-next-requires c = (omega arith, digit_least _ (tried (goal.at.with_digit-next-requires c).Else-not-is_ascii_digit))

pub returns-then-next-limit : goal.returns-then-next-limit
returns-then-next-limit c =
    reading_above c.loop-byte.invariant c.loop-byte-test.true (tried (goal.at.returns-then-next-limit c).Else-not-is_ascii_digit) _ c.with_digit-next.ensures
    (omega arith)

pub loop-byte-preserved : goal.loop-byte-preserved
loop-byte-preserved c =
    reading_on c.loop-byte.invariant c.loop-byte-test.true (tried (goal.at.loop-byte-preserved c).Else-not-is_ascii_digit) _ c.with_digit-next.ensures (omega arith)

pub returns : goal.returns
returns c = reading_all c.loop-byte.invariant c.loop-byte-test.false
