use Rattle.jam_records.proofs.AddressLemmas.{number_split}
use Rattle.jam_records.proofs.address.number.Goals as goal

pub returns-in_default-clause-only : goal.returns-in_default-clause-only
returns-in_default-clause-only c n rest first =
    let split = number_split _ _ _ n rest c.digits_first.ensures.whole c.digits_first.ensures.digits c.digits_first.ensures.ends first in
    let some = c.value_of.ensures.only n first.small split.0 in
    let none = c.in_default.is in
    cc

pub returns-clause-only : goal.returns-clause-only
returns-clause-only c n rest first =
    let split = number_split _ _ _ n rest c.digits_first.ensures.whole c.digits_first.ensures.digits c.digits_first.ensures.ends first in
    let some = c.value_of.ensures.only n first.small split.0 in
    let is = c.in-Some.is in
    (cc, split.1)
