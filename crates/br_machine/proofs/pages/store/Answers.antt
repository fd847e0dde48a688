-- One byte differs, and its page is made.
use Rattle.std.proofs.Common.{ℕ, ◌/◌, ◌%◌, ◌∙◌, arith}
use Rattle.br_machine.specs.Kept.{first_byte}
use Rattle.br_machine.proofs.Kept.{bytes_in-set}
use Rattle.br_machine.proofs.pages.store.Goals as goal

pub returns-clause-bytes : goal.returns-clause-bytes
returns-clause-bytes c =
    let l = c.args.layout in
    let code = c.args.code.now in
    let first : ℕ → ℕ = first_byte l code c.args.junk in
    bytes_in-set l code c.args.junk c.args.pages.now.items c.put.new.pages.items c.args.place c.args.b c.requires.inside
    (c.put.ensures.there (first c.args.place))
    (λ q not. c.put.ensures.others (q / 4096) (q % 4096) (first q) (λ e. not (omega arith)) (omega arith)
    ∙ c.make.ensures.bytes q)

pub returns-clause-made : goal.returns-clause-made
returns-clause-made c = c.put.ensures.made ∙ c.make.ensures.made
