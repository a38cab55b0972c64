-- By the kind of line.
use Rattle.model.specs.Layouts.{record_layout, key_layout, head_layout, line_layout, layout}
use Rattle.codec.proofs.layouts.columns.Goals as goal

pub returns-in-RecordLine : goal.returns-in-RecordLine
unfolding layout record_layout key_layout head_layout line_layout
returns-in-RecordLine c = rw c.in-RecordLine.is

pub returns-in-KeyLine : goal.returns-in-KeyLine
unfolding layout record_layout key_layout head_layout line_layout
returns-in-KeyLine c = rw c.in-KeyLine.is

pub returns-in-CoordinatorHead : goal.returns-in-CoordinatorHead
unfolding layout record_layout key_layout head_layout line_layout
returns-in-CoordinatorHead c = rw c.in-CoordinatorHead.is

pub returns-in-CoordinatorLine : goal.returns-in-CoordinatorLine
unfolding layout record_layout key_layout head_layout line_layout
returns-in-CoordinatorLine c = rw c.in-CoordinatorLine.is
