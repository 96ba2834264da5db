use Rattle.std.proofs.Common.{refl, sym, subst}
use Rattle.mb_words.specs.Command.{Listing, Means, listing_name}
use Rattle.mb_words.proofs.ReadLemmas.{if_none, listing-lone, only_lone_spec, plain-means}
use Rattle.mb_words.proofs.words.read_listing.Goals as goal

pub returns-in_err-spec-clause-only : goal.returns-in_err-spec-clause-only
returns-in_err-spec-clause-only c =
    if_none _ _ c.from_residual.ensures
    (λ command m. let l = only_lone_spec _ command (listing_name c.args.traced) (listing-lone c.args.traced) c.requires m
    in c.in_err-spec.ensures.only l.0 l.1)

pub returns-clause-found : goal.returns-clause-found
returns-clause-found c =
    subst (Means c.args.words.now) (sym c.listing_of.ensures.meaning)
    (plain-means _ (Listing c.args.traced _) c.requires refl c.in_ok-spec.ensures.found tt)
