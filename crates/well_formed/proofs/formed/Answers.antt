-- Where the head is well formed, at most eight entries are in use, and the rest is all that is left to ask.
use Rattle.transactions.specs.Units.{units_in}
use Rattle.well_formed.specs.Formed.{head_few, formed-rest}
use Rattle.well_formed.proofs.formed.Goals as goal

pub entries_formed-requires : goal.entries_formed-requires
entries_formed-requires c = head_few c.args.issued c.args.t c.requires.head

pub distinct_keys-requires : goal.distinct_keys-requires
distinct_keys-requires c = head_few c.args.issued c.args.t c.requires.head

pub decide_formed-requires : goal.decide_formed-requires
decide_formed-requires c = head_few c.args.issued c.args.t c.requires.head

pub place_formed-requires : goal.place_formed-requires
place_formed-requires c = (head_few c.args.issued c.args.t c.requires.head, c.requires.groups)

pub returns : goal.returns
returns c =
    rw (c.entries_formed.ensures, c.distinct_keys.ensures, c.decide_formed.ensures, c.place_formed.ensures, c.verdict_formed.ensures)
    (formed-rest (units_in c.args.letters.now) c.args.issued c.args.t c.requires.head)
