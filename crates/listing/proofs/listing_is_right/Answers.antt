-- `listing::listing_is_right` meets its contract, which is what holds of the layout.
use Rattle.listing.proofs.Cases.{worked}
use Rattle.listing.proofs.Lengths.{fixed}
use Rattle.listing.proofs.One.{one_tables}
use Rattle.listing.proofs.listing_is_right.Goals as goal

pub returns : goal.returns
returns c = (fixed, (worked, one_tables))
