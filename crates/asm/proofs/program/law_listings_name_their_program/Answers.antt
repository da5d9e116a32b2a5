use Rattle.asm.specs.laws.Listing.{listing_names}
use Rattle.asm.proofs.program.law_listings_name_their_program.Goals as goal

pub returns : goal.returns
returns c = listing_names
