-- `images_in` meets its contract.
use borrow.Author.Tests.{eq-eqb, ne_eqb, le-leb, lt-leb}
use Rattle.dumps.specs.Tray.{images_in}
use Rattle.dumps.proofs.tray.images_in.Goals as goal

pub returns-then-each-lt1 : goal.returns-then-each-lt1
unfolding images_in
returns-then-each-lt1 c = rw (lt-leb 1 _ c.if-each-lt1.true)

pub returns-then-long-each-ne0 : goal.returns-then-long-each-ne0
unfolding images_in
returns-then-long-each-ne0 c = rw (le-leb 1 _ c.if-each-lt1.false, ne_eqb _ _ c.if-long-each-ne0.true)

pub returns-then-images-gt64 : goal.returns-then-images-gt64
unfolding images_in
returns-then-images-gt64 c = rw (le-leb 1 _ c.if-each-lt1.false, eq-eqb _ _ c.if-long-each-ne0.false, lt-leb _ 64 c.if-images-gt64.true)

pub returns : goal.returns
unfolding images_in
returns c = rw (le-leb 1 _ c.if-each-lt1.false, eq-eqb _ _ c.if-long-each-ne0.false, le-leb _ 64 c.if-images-gt64.false)
