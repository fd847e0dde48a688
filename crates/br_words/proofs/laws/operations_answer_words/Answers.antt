-- By cases on the operation.
use Rattle.std.proofs.Common.{ℕ, ◌^◌, ◌<◌, arith}
use Rattle.std.proofs.lemmas.Grind.{common_steps}
use Rattle.std.proofs.lemmas.Bool.Decides.{nat_tests}
use Rattle.std.specs.Int.Bits.{and_lt, or_lt, xor_lt}
use Rattle.br_words.specs.declared.operation.BinOp.{BinOp}
use Rattle.br_words.specs.declared.operation.BinOp.TheVariants.{Add, Sub, Mul, Mulhuu, Divu, Remu, And}
use Rattle.br_words.specs.declared.operation.BinOp.TheVariants.{Or, Xor, Sru, Slu, Srs, Lts, Ltu, Eq}
use Rattle.br_words.specs.Words.{value_of_op}
use Rattle.br_words.proofs.laws.operations_answer_words.Goals as goal

answers_word : (o : BinOp) (a b : ℕ) → a < 2 ^ 32 → b < 2 ^ 32 → value_of_op o a b < 2 ^ 32
answers_word Add a b p q = omega arith
answers_word Sub a b p q = omega arith
answers_word Mul a b p q = omega arith
answers_word Mulhuu a b p q = grind (arith, common_steps)
answers_word Divu a b p q = grind (arith, nat_tests)
answers_word Remu a b p q = grind (arith, nat_tests)
answers_word And a b p q = and_lt 32 a b p q
answers_word Or a b p q = or_lt 32 a b p q
answers_word Xor a b p q = xor_lt 32 a b p q
answers_word Sru a b p q = grind (arith, common_steps)
answers_word Slu a b p q = omega arith
answers_word Srs a b p q = grind (arith, common_steps)
answers_word Lts a b p q = grind (arith, common_steps)
answers_word Ltu a b p q = grind (arith, common_steps)
answers_word Eq a b p q = grind (arith, common_steps)

pub returns : goal.returns
returns c = answers_word
