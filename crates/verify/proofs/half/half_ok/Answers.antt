-- The four tests of `half_ok`, each by its function.
use mathlib.Core.Path.{refl}
use mathlib.Core.Bool.{and-false}
use lib.ListN.{length, length-drop}
use lib.Seq.{take-length}
use borrow.Author.Tests.{lt-leb, le-leb}
use Rattle.verify.specs.Local.{half_ok}
use Rattle.verify.proofs.SlotsCut.{up_rises}
use Rattle.verify.proofs.half.half_ok.Goals as goal

pub returns-then-words-used : goal.returns-then-words-used
unfolding half_ok
returns-then-words-used c =
    rw (← c.words_of-used.ensures, lt-leb _ (length c.args.words.arena.now) c.if-words-used.true) (rw and-false (rw and-false refl))

pub returns : goal.returns
unfolding half_ok
returns c =
    let there = le-leb c.words_of-used.result (length c.args.words.arena.now) c.if-words-used.false in
    rw (
      ← c.words_of-used.ensures,
      there,
      up_rises c.args.words.dir.now _ c.requires c.rises.ensures,
      c.is_blank.ensures,
      ← length-drop c.words_of-used.result c.args.words.arena.now,
      take-length,
    )
