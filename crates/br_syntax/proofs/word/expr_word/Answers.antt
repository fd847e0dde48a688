-- The longer words, byte by byte.
use Rattle.std.proofs.Common.{◌≡◌, refl, codes, arith, rules}
use Rattle.std.proofs.lemmas.Slice.Eq.{text_from_reads}
use Rattle.br_syntax.proofs.word.expr_word.Goals as goal

pub returns-in-load1 : goal.returns-in-load1
returns-in-load1 c =
    let is : c.args.word.now ≡ codes "load1" =
    text_from_reads c.args.word.now (codes "load1") (omega arith) (search rules) in
    rw is refl

pub returns-in-load2 : goal.returns-in-load2
returns-in-load2 c =
    let is : c.args.word.now ≡ codes "load2" =
    text_from_reads c.args.word.now (codes "load2") (omega arith) (search rules) in
    rw is refl

pub returns-in-load4 : goal.returns-in-load4
returns-in-load4 c =
    let is : c.args.word.now ≡ codes "load4" =
    text_from_reads c.args.word.now (codes "load4") (omega arith) (search rules) in
    rw is refl

pub returns-in-table1 : goal.returns-in-table1
returns-in-table1 c =
    let is : c.args.word.now ≡ codes "table1" =
    text_from_reads c.args.word.now (codes "table1") (omega arith) (search rules) in
    rw is refl

pub returns-in-table2 : goal.returns-in-table2
returns-in-table2 c =
    let is : c.args.word.now ≡ codes "table2" =
    text_from_reads c.args.word.now (codes "table2") (omega arith) (search rules) in
    rw is refl

pub returns-in-table4 : goal.returns-in-table4
returns-in-table4 c =
    let is : c.args.word.now ≡ codes "table4" =
    text_from_reads c.args.word.now (codes "table4") (omega arith) (search rules) in
    rw is refl

pub returns-in-mulhuu : goal.returns-in-mulhuu
returns-in-mulhuu c =
    let is : c.args.word.now ≡ codes "mulhuu" =
    text_from_reads c.args.word.now (codes "mulhuu") (omega arith) (search rules) in
    rw is refl
