-- The longer words, byte by byte.
use Rattle.std.proofs.Common.{◌≡◌, refl, codes, arith, rules}
use Rattle.std.proofs.lemmas.Slice.Eq.{text_from_reads}
use Rattle.br_syntax.proofs.word.cmd_word.Goals as goal

pub returns-in-store1 : goal.returns-in-store1
returns-in-store1 c =
    let is : c.args.word.now ≡ codes "store1" =
    text_from_reads c.args.word.now (codes "store1") (omega arith) (search rules) in
    rw is refl

pub returns-in-store2 : goal.returns-in-store2
returns-in-store2 c =
    let is : c.args.word.now ≡ codes "store2" =
    text_from_reads c.args.word.now (codes "store2") (omega arith) (search rules) in
    rw is refl

pub returns-in-store4 : goal.returns-in-store4
returns-in-store4 c =
    let is : c.args.word.now ≡ codes "store4" =
    text_from_reads c.args.word.now (codes "store4") (omega arith) (search rules) in
    rw is refl

pub returns-in-interact : goal.returns-in-interact
returns-in-interact c =
    let is : c.args.word.now ≡ codes "interact" =
    text_from_reads c.args.word.now (codes "interact") (omega arith) (search rules) in
    rw is refl

pub returns-in-stackalloc : goal.returns-in-stackalloc
returns-in-stackalloc c =
    let is : c.args.word.now ≡ codes "stackalloc" =
    text_from_reads c.args.word.now (codes "stackalloc") (omega arith) (search rules) in
    rw is refl
