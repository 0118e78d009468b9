use Rattle.fb_resolve.proofs.namespaces.maps.+insert_in.Given as goal

abbrev pub decreases-insert_in : goal.decreases-insert_in
decreases-insert_in l = l.levels
