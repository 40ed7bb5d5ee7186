-- Reading the arguments of a procedure takes their spellings and nothing else, and what is written is one of them.
use Rattle.std.proofs.Common.{◌≡◌, ℕ, zero, suc, List, [], ◌++◌, Ok, lit<, refl, sym, ap, subst, ◌∙◌}
use Rattle.sfs_base.specs.Reading.{IsBytes, IsExact}
use Rattle.sfs_base.proofs.ReadingLemmas.{ok_is}
use Rattle.sfs_xdr.specs.Items.{word, opaque, opaque_var}
use Rattle.sfs_xdr.specs.Codec.{number_item, ◌⟫◌, IsNumber}
use Rattle.sfs_xdr.specs.CodecLemmas.{number_exact, text_exact, both_exact, forgetting_exact, behind, text_written}
use Rattle.nfs_proto.specs.declared.call.Call.{Call}
use Rattle.nfs_proto.specs.declared.call.Call.TheVariants.{Null, GetAttr, SetAttr, Root, Lookup, ReadLink, Read, WriteCache, Write, Create, Remove, Rename, Link, SymLink, MakeDir, RemoveDir, ReadDir, StatFs}
use Rattle.nfs_proto.specs.declared.handle.Handle.{Handle}
use Rattle.nfs_proto.specs.declared.sattr.Sattr.{Sattr}
use Rattle.nfs_proto.specs.Types.{IsHandle, handle_item, IsName, name_item, IsPath, path_item, IsData, data_item, IsSattr, sattr_item}
use Rattle.nfs_proto.specs.TypeLemmas.{handle_exact, handle_written, sattr_exact, sattr_written}
use Rattle.nfs_proto.specs.Arguments.{procedure_of, IsArguments, nothing, null_of, get_attr_of, set_attr_of, root_of, lookup_of, read_link_of, read_of, write_cache_of, write_of, create_of, remove_of, rename_of, link_of, sym_link_of, make_dir_of, remove_dir_of, read_dir_of, stat_fs_of, arguments_of}
use Rattle.nfs_proto.specs.Laws.{ArgumentsAreExact, ArgumentsAreWritten}

name_exact : IsExact name_item IsName
name_exact = text_exact 1024 (lit< tt)

path_exact : IsExact path_item IsPath
path_exact = text_exact 1024 (lit< tt)

data_exact : IsExact data_item IsData
data_exact = text_exact 8192 (lit< tt)

pub nothing_exact : IsExact nothing (λ u item. item ≡ [])
nothing_exact = record {
  found = λ bytes x rest fits e. ([], refl, let pair = ok_is {E = Unit {0}} (tt, bytes) (x, rest) e in ap (λ (q : Unit {0} × List ℕ). q.1) pair);
  again = λ x item rest h. ap (λ (i : List ℕ). Ok (tt, i ++ rest)) h;
}

-- ---- each procedure

-- the call is made of these parts, which are spelled so
abbrev Made : {X : Type 0} → (X → Call) → (X → List ℕ → Type 0) → Call → List ℕ → Type 0
Made {X} make Spells call item = (x : X) × (make x ≡ call) × Spells x item

null_exact : IsExact null_of (Made (λ (u : Unit {0}). Null) (λ u item. item ≡ []))
unfolding null_of
null_exact = forgetting_exact (λ (u : Unit {0}). Null) nothing (λ u item. item ≡ []) nothing_exact

get_attr_exact : IsExact get_attr_of (Made (λ (p : Handle). GetAttr p) (λ (p : Handle). IsHandle p))
unfolding get_attr_of
get_attr_exact = forgetting_exact (λ (p : Handle). GetAttr p) _ (λ (p : Handle). IsHandle p) (handle_exact)

set_attr_exact : IsExact set_attr_of (Made (λ (p : Handle × Sattr). SetAttr p.0 p.1) (λ (p : Handle × Sattr). IsHandle p.0 ⟫ IsSattr p.1))
unfolding set_attr_of
set_attr_exact = forgetting_exact (λ (p : Handle × Sattr). SetAttr p.0 p.1) _ (λ (p : Handle × Sattr). IsHandle p.0 ⟫ IsSattr p.1) (both_exact handle_item sattr_item IsHandle IsSattr handle_exact sattr_exact)

root_exact : IsExact root_of (Made (λ (u : Unit {0}). Root) (λ u item. item ≡ []))
unfolding root_of
root_exact = forgetting_exact (λ (u : Unit {0}). Root) nothing (λ u item. item ≡ []) nothing_exact

lookup_exact : IsExact lookup_of (Made (λ (p : Handle × (List ℕ)). Lookup p.0 p.1) (λ (p : Handle × (List ℕ)). IsHandle p.0 ⟫ IsName p.1))
unfolding lookup_of
lookup_exact = forgetting_exact (λ (p : Handle × (List ℕ)). Lookup p.0 p.1) _ (λ (p : Handle × (List ℕ)). IsHandle p.0 ⟫ IsName p.1) (both_exact handle_item name_item IsHandle IsName handle_exact name_exact)

read_link_exact : IsExact read_link_of (Made (λ (p : Handle). ReadLink p) (λ (p : Handle). IsHandle p))
unfolding read_link_of
read_link_exact = forgetting_exact (λ (p : Handle). ReadLink p) _ (λ (p : Handle). IsHandle p) (handle_exact)

read_exact : IsExact read_of (Made (λ (p : Handle × (ℕ × (ℕ × ℕ))). Read p.0 p.1.0 p.1.1.0 p.1.1.1) (λ (p : Handle × (ℕ × (ℕ × ℕ))). IsHandle p.0 ⟫ IsNumber p.1.0 ⟫ IsNumber p.1.1.0 ⟫ IsNumber p.1.1.1))
unfolding read_of
read_exact = forgetting_exact (λ (p : Handle × (ℕ × (ℕ × ℕ))). Read p.0 p.1.0 p.1.1.0 p.1.1.1) _ (λ (p : Handle × (ℕ × (ℕ × ℕ))). IsHandle p.0 ⟫ IsNumber p.1.0 ⟫ IsNumber p.1.1.0 ⟫ IsNumber p.1.1.1) (both_exact handle_item _ IsHandle _ handle_exact (both_exact number_item _ IsNumber _ number_exact (both_exact number_item number_item IsNumber IsNumber number_exact number_exact)))

write_cache_exact : IsExact write_cache_of (Made (λ (u : Unit {0}). WriteCache) (λ u item. item ≡ []))
unfolding write_cache_of
write_cache_exact = forgetting_exact (λ (u : Unit {0}). WriteCache) nothing (λ u item. item ≡ []) nothing_exact

write_exact : IsExact write_of (Made (λ (p : Handle × (ℕ × (ℕ × (ℕ × (List ℕ))))). Write p.0 p.1.0 p.1.1.0 p.1.1.1.0 p.1.1.1.1) (λ (p : Handle × (ℕ × (ℕ × (ℕ × (List ℕ))))). IsHandle p.0 ⟫ IsNumber p.1.0 ⟫ IsNumber p.1.1.0 ⟫ IsNumber p.1.1.1.0 ⟫ IsData p.1.1.1.1))
unfolding write_of
write_exact = forgetting_exact (λ (p : Handle × (ℕ × (ℕ × (ℕ × (List ℕ))))). Write p.0 p.1.0 p.1.1.0 p.1.1.1.0 p.1.1.1.1) _ (λ (p : Handle × (ℕ × (ℕ × (ℕ × (List ℕ))))). IsHandle p.0 ⟫ IsNumber p.1.0 ⟫ IsNumber p.1.1.0 ⟫ IsNumber p.1.1.1.0 ⟫ IsData p.1.1.1.1) (both_exact handle_item _ IsHandle _ handle_exact (both_exact number_item _ IsNumber _ number_exact (both_exact number_item _ IsNumber _ number_exact (both_exact number_item data_item IsNumber IsData number_exact data_exact))))

create_exact : IsExact create_of (Made (λ (p : Handle × (List ℕ × Sattr)). Create p.0 p.1.0 p.1.1) (λ (p : Handle × (List ℕ × Sattr)). IsHandle p.0 ⟫ IsName p.1.0 ⟫ IsSattr p.1.1))
unfolding create_of
create_exact = forgetting_exact (λ (p : Handle × (List ℕ × Sattr)). Create p.0 p.1.0 p.1.1) _ (λ (p : Handle × (List ℕ × Sattr)). IsHandle p.0 ⟫ IsName p.1.0 ⟫ IsSattr p.1.1) (both_exact handle_item _ IsHandle _ handle_exact (both_exact name_item sattr_item IsName IsSattr name_exact sattr_exact))

remove_exact : IsExact remove_of (Made (λ (p : Handle × (List ℕ)). Remove p.0 p.1) (λ (p : Handle × (List ℕ)). IsHandle p.0 ⟫ IsName p.1))
unfolding remove_of
remove_exact = forgetting_exact (λ (p : Handle × (List ℕ)). Remove p.0 p.1) _ (λ (p : Handle × (List ℕ)). IsHandle p.0 ⟫ IsName p.1) (both_exact handle_item name_item IsHandle IsName handle_exact name_exact)

rename_exact : IsExact rename_of (Made (λ (p : Handle × (List ℕ × (Handle × (List ℕ)))). Rename p.0 p.1.0 p.1.1.0 p.1.1.1) (λ (p : Handle × (List ℕ × (Handle × (List ℕ)))). IsHandle p.0 ⟫ IsName p.1.0 ⟫ IsHandle p.1.1.0 ⟫ IsName p.1.1.1))
unfolding rename_of
rename_exact = forgetting_exact (λ (p : Handle × (List ℕ × (Handle × (List ℕ)))). Rename p.0 p.1.0 p.1.1.0 p.1.1.1) _ (λ (p : Handle × (List ℕ × (Handle × (List ℕ)))). IsHandle p.0 ⟫ IsName p.1.0 ⟫ IsHandle p.1.1.0 ⟫ IsName p.1.1.1) (both_exact handle_item _ IsHandle _ handle_exact (both_exact name_item _ IsName _ name_exact (both_exact handle_item name_item IsHandle IsName handle_exact name_exact)))

link_exact : IsExact link_of (Made (λ (p : Handle × (Handle × (List ℕ))). Link p.0 p.1.0 p.1.1) (λ (p : Handle × (Handle × (List ℕ))). IsHandle p.0 ⟫ IsHandle p.1.0 ⟫ IsName p.1.1))
unfolding link_of
link_exact = forgetting_exact (λ (p : Handle × (Handle × (List ℕ))). Link p.0 p.1.0 p.1.1) _ (λ (p : Handle × (Handle × (List ℕ))). IsHandle p.0 ⟫ IsHandle p.1.0 ⟫ IsName p.1.1) (both_exact handle_item _ IsHandle _ handle_exact (both_exact handle_item name_item IsHandle IsName handle_exact name_exact))

sym_link_exact : IsExact sym_link_of (Made (λ (p : Handle × (List ℕ × (List ℕ × Sattr))). SymLink p.0 p.1.0 p.1.1.0 p.1.1.1) (λ (p : Handle × (List ℕ × (List ℕ × Sattr))). IsHandle p.0 ⟫ IsName p.1.0 ⟫ IsPath p.1.1.0 ⟫ IsSattr p.1.1.1))
unfolding sym_link_of
sym_link_exact = forgetting_exact (λ (p : Handle × (List ℕ × (List ℕ × Sattr))). SymLink p.0 p.1.0 p.1.1.0 p.1.1.1) _ (λ (p : Handle × (List ℕ × (List ℕ × Sattr))). IsHandle p.0 ⟫ IsName p.1.0 ⟫ IsPath p.1.1.0 ⟫ IsSattr p.1.1.1) (both_exact handle_item _ IsHandle _ handle_exact (both_exact name_item _ IsName _ name_exact (both_exact path_item sattr_item IsPath IsSattr path_exact sattr_exact)))

make_dir_exact : IsExact make_dir_of (Made (λ (p : Handle × (List ℕ × Sattr)). MakeDir p.0 p.1.0 p.1.1) (λ (p : Handle × (List ℕ × Sattr)). IsHandle p.0 ⟫ IsName p.1.0 ⟫ IsSattr p.1.1))
unfolding make_dir_of
make_dir_exact = forgetting_exact (λ (p : Handle × (List ℕ × Sattr)). MakeDir p.0 p.1.0 p.1.1) _ (λ (p : Handle × (List ℕ × Sattr)). IsHandle p.0 ⟫ IsName p.1.0 ⟫ IsSattr p.1.1) (both_exact handle_item _ IsHandle _ handle_exact (both_exact name_item sattr_item IsName IsSattr name_exact sattr_exact))

remove_dir_exact : IsExact remove_dir_of (Made (λ (p : Handle × (List ℕ)). RemoveDir p.0 p.1) (λ (p : Handle × (List ℕ)). IsHandle p.0 ⟫ IsName p.1))
unfolding remove_dir_of
remove_dir_exact = forgetting_exact (λ (p : Handle × (List ℕ)). RemoveDir p.0 p.1) _ (λ (p : Handle × (List ℕ)). IsHandle p.0 ⟫ IsName p.1) (both_exact handle_item name_item IsHandle IsName handle_exact name_exact)

read_dir_exact : IsExact read_dir_of (Made (λ (p : Handle × (ℕ × ℕ)). ReadDir p.0 p.1.0 p.1.1) (λ (p : Handle × (ℕ × ℕ)). IsHandle p.0 ⟫ IsNumber p.1.0 ⟫ IsNumber p.1.1))
unfolding read_dir_of
read_dir_exact = forgetting_exact (λ (p : Handle × (ℕ × ℕ)). ReadDir p.0 p.1.0 p.1.1) _ (λ (p : Handle × (ℕ × ℕ)). IsHandle p.0 ⟫ IsNumber p.1.0 ⟫ IsNumber p.1.1) (both_exact handle_item _ IsHandle _ handle_exact (both_exact number_item number_item IsNumber IsNumber number_exact number_exact))

stat_fs_exact : IsExact stat_fs_of (Made (λ (p : Handle). StatFs p) (λ (p : Handle). IsHandle p))
unfolding stat_fs_of
stat_fs_exact = forgetting_exact (λ (p : Handle). StatFs p) _ (λ (p : Handle). IsHandle p) (handle_exact)

-- ---- all of them

-- a call that is read is one of the procedure, and is spelled there
abbrev Found : ℕ → Call → List ℕ → List ℕ → Type 0
Found procedure call bytes rest = (item : List ℕ) × ((procedure_of call ≡ procedure) × IsArguments call item) × (bytes ≡ item ++ rest)

arguments_found : (procedure : ℕ) (bytes : List ℕ) (call : Call) (rest : List ℕ) → IsBytes bytes → arguments_of procedure bytes ≡ Ok (call, rest) → Found procedure call bytes rest
unfolding arguments_of
arguments_found zero bytes call rest fits e =
    let f = null_exact.found bytes call rest fits e in (f.0, subst (λ (c : Call). (procedure_of c ≡ 0) × IsArguments c f.0) f.1.1 (refl, f.1.2), f.2)
arguments_found (suc zero) bytes call rest fits e =
    let f = get_attr_exact.found bytes call rest fits e in (f.0, subst (λ (c : Call). (procedure_of c ≡ 1) × IsArguments c f.0) f.1.1 (refl, f.1.2), f.2)
arguments_found (suc (suc zero)) bytes call rest fits e =
    let f = set_attr_exact.found bytes call rest fits e in (f.0, subst (λ (c : Call). (procedure_of c ≡ 2) × IsArguments c f.0) f.1.1 (refl, f.1.2), f.2)
arguments_found (suc (suc (suc zero))) bytes call rest fits e =
    let f = root_exact.found bytes call rest fits e in (f.0, subst (λ (c : Call). (procedure_of c ≡ 3) × IsArguments c f.0) f.1.1 (refl, f.1.2), f.2)
arguments_found (suc (suc (suc (suc zero)))) bytes call rest fits e =
    let f = lookup_exact.found bytes call rest fits e in (f.0, subst (λ (c : Call). (procedure_of c ≡ 4) × IsArguments c f.0) f.1.1 (refl, f.1.2), f.2)
arguments_found (suc (suc (suc (suc (suc zero))))) bytes call rest fits e =
    let f = read_link_exact.found bytes call rest fits e in (f.0, subst (λ (c : Call). (procedure_of c ≡ 5) × IsArguments c f.0) f.1.1 (refl, f.1.2), f.2)
arguments_found (suc (suc (suc (suc (suc (suc zero)))))) bytes call rest fits e =
    let f = read_exact.found bytes call rest fits e in (f.0, subst (λ (c : Call). (procedure_of c ≡ 6) × IsArguments c f.0) f.1.1 (refl, f.1.2), f.2)
arguments_found (suc (suc (suc (suc (suc (suc (suc zero))))))) bytes call rest fits e =
    let f = write_cache_exact.found bytes call rest fits e in (f.0, subst (λ (c : Call). (procedure_of c ≡ 7) × IsArguments c f.0) f.1.1 (refl, f.1.2), f.2)
arguments_found (suc (suc (suc (suc (suc (suc (suc (suc zero)))))))) bytes call rest fits e =
    let f = write_exact.found bytes call rest fits e in (f.0, subst (λ (c : Call). (procedure_of c ≡ 8) × IsArguments c f.0) f.1.1 (refl, f.1.2), f.2)
arguments_found (suc (suc (suc (suc (suc (suc (suc (suc (suc zero))))))))) bytes call rest fits e =
    let f = create_exact.found bytes call rest fits e in (f.0, subst (λ (c : Call). (procedure_of c ≡ 9) × IsArguments c f.0) f.1.1 (refl, f.1.2), f.2)
arguments_found (suc (suc (suc (suc (suc (suc (suc (suc (suc (suc zero)))))))))) bytes call rest fits e =
    let f = remove_exact.found bytes call rest fits e in (f.0, subst (λ (c : Call). (procedure_of c ≡ 10) × IsArguments c f.0) f.1.1 (refl, f.1.2), f.2)
arguments_found (suc (suc (suc (suc (suc (suc (suc (suc (suc (suc (suc zero))))))))))) bytes call rest fits e =
    let f = rename_exact.found bytes call rest fits e in (f.0, subst (λ (c : Call). (procedure_of c ≡ 11) × IsArguments c f.0) f.1.1 (refl, f.1.2), f.2)
arguments_found (suc (suc (suc (suc (suc (suc (suc (suc (suc (suc (suc (suc zero)))))))))))) bytes call rest fits e =
    let f = link_exact.found bytes call rest fits e in (f.0, subst (λ (c : Call). (procedure_of c ≡ 12) × IsArguments c f.0) f.1.1 (refl, f.1.2), f.2)
arguments_found (suc (suc (suc (suc (suc (suc (suc (suc (suc (suc (suc (suc (suc zero))))))))))))) bytes call rest fits e =
    let f = sym_link_exact.found bytes call rest fits e in (f.0, subst (λ (c : Call). (procedure_of c ≡ 13) × IsArguments c f.0) f.1.1 (refl, f.1.2), f.2)
arguments_found (suc (suc (suc (suc (suc (suc (suc (suc (suc (suc (suc (suc (suc (suc zero)))))))))))))) bytes call rest fits e =
    let f = make_dir_exact.found bytes call rest fits e in (f.0, subst (λ (c : Call). (procedure_of c ≡ 14) × IsArguments c f.0) f.1.1 (refl, f.1.2), f.2)
arguments_found (suc (suc (suc (suc (suc (suc (suc (suc (suc (suc (suc (suc (suc (suc (suc zero))))))))))))))) bytes call rest fits e =
    let f = remove_dir_exact.found bytes call rest fits e in (f.0, subst (λ (c : Call). (procedure_of c ≡ 15) × IsArguments c f.0) f.1.1 (refl, f.1.2), f.2)
arguments_found (suc (suc (suc (suc (suc (suc (suc (suc (suc (suc (suc (suc (suc (suc (suc (suc zero)))))))))))))))) bytes call rest fits e =
    let f = read_dir_exact.found bytes call rest fits e in (f.0, subst (λ (c : Call). (procedure_of c ≡ 16) × IsArguments c f.0) f.1.1 (refl, f.1.2), f.2)
arguments_found (suc (suc (suc (suc (suc (suc (suc (suc (suc (suc (suc (suc (suc (suc (suc (suc (suc zero))))))))))))))))) bytes call rest fits e =
    let f = stat_fs_exact.found bytes call rest fits e in (f.0, subst (λ (c : Call). (procedure_of c ≡ 17) × IsArguments c f.0) f.1.1 (refl, f.1.2), f.2)
arguments_found (suc (suc (suc (suc (suc (suc (suc (suc (suc (suc (suc (suc (suc (suc (suc (suc (suc (suc k)))))))))))))))))) bytes call rest fits e = absurd cc

arguments_again : (call : Call) (item rest : List ℕ) → IsArguments call item → arguments_of (procedure_of call) (item ++ rest) ≡ Ok (call, rest)
unfolding arguments_of
arguments_again Null item rest h = null_exact.again Null item rest (tt, refl, h)
arguments_again (GetAttr file) item rest h = get_attr_exact.again (GetAttr file) item rest (file, refl, h)
arguments_again (SetAttr file set) item rest h = set_attr_exact.again (SetAttr file set) item rest ((file, set), refl, h)
arguments_again Root item rest h = root_exact.again Root item rest (tt, refl, h)
arguments_again (Lookup dir name) item rest h = lookup_exact.again (Lookup dir name) item rest ((dir, name), refl, h)
arguments_again (ReadLink file) item rest h = read_link_exact.again (ReadLink file) item rest (file, refl, h)
arguments_again (Read file offset count total) item rest h = read_exact.again (Read file offset count total) item rest ((file, (offset, (count, total))), refl, h)
arguments_again WriteCache item rest h = write_cache_exact.again WriteCache item rest (tt, refl, h)
arguments_again (Write file begin offset total bytes) item rest h = write_exact.again (Write file begin offset total bytes) item rest ((file, (begin, (offset, (total, bytes)))), refl, h)
arguments_again (Create dir name set) item rest h = create_exact.again (Create dir name set) item rest ((dir, (name, set)), refl, h)
arguments_again (Remove dir name) item rest h = remove_exact.again (Remove dir name) item rest ((dir, name), refl, h)
arguments_again (Rename from from_name to to_name) item rest h = rename_exact.again (Rename from from_name to to_name) item rest ((from, (from_name, (to, to_name))), refl, h)
arguments_again (Link file dir name) item rest h = link_exact.again (Link file dir name) item rest ((file, (dir, name)), refl, h)
arguments_again (SymLink dir name path set) item rest h = sym_link_exact.again (SymLink dir name path set) item rest ((dir, (name, (path, set))), refl, h)
arguments_again (MakeDir dir name set) item rest h = make_dir_exact.again (MakeDir dir name set) item rest ((dir, (name, set)), refl, h)
arguments_again (RemoveDir dir name) item rest h = remove_dir_exact.again (RemoveDir dir name) item rest ((dir, name), refl, h)
arguments_again (ReadDir dir cookie count) item rest h = read_dir_exact.again (ReadDir dir cookie count) item rest ((dir, (cookie, count)), refl, h)
arguments_again (StatFs file) item rest h = stat_fs_exact.again (StatFs file) item rest (file, refl, h)

pub arguments_exact : ArgumentsAreExact
arguments_exact procedure there = record {
  found = λ bytes call rest fits e. arguments_found procedure bytes call rest fits e;
  again = λ call item rest h. ap (λ p. arguments_of p (item ++ rest)) (sym h.0) ∙ arguments_again call item rest h.1;
}

-- ---- what is written

pub arguments_written : ArgumentsAreWritten
arguments_written Null typed fits = refl
arguments_written (GetAttr file) typed fits = handle_written file typed tt
arguments_written (SetAttr file set) typed fits = behind (opaque file.0) _ (handle_written file typed.0 tt) (sattr_written set typed.1 tt)
arguments_written Root typed fits = refl
arguments_written (Lookup dir name) typed fits = behind (opaque dir.0) _ (handle_written dir typed tt) (text_written 1024 name fits)
arguments_written (ReadLink file) typed fits = handle_written file typed tt
arguments_written (Read file offset count total) typed fits = behind (opaque file.0) _ (handle_written file typed.0 tt) (behind (word offset) _ ((typed.1, refl)) (behind (word count) _ ((typed.2, refl)) ((typed.3, refl))))
arguments_written WriteCache typed fits = refl
arguments_written (Write file begin offset total bytes) typed fits = behind (opaque file.0) _ (handle_written file typed.0 tt) (behind (word begin) _ ((typed.1, refl)) (behind (word offset) _ ((typed.2, refl)) (behind (word total) _ ((typed.3, refl)) (text_written 8192 bytes fits))))
arguments_written (Create dir name set) typed fits = behind (opaque dir.0) _ (handle_written dir typed.0 tt) (behind (opaque_var name) _ (text_written 1024 name fits) (sattr_written set typed.1 tt))
arguments_written (Remove dir name) typed fits = behind (opaque dir.0) _ (handle_written dir typed tt) (text_written 1024 name fits)
arguments_written (Rename from from_name to to_name) typed fits = behind (opaque from.0) _ (handle_written from typed.0 tt) (behind (opaque_var from_name) _ (text_written 1024 from_name fits.0) (behind (opaque to.0) _ (handle_written to typed.1 tt) (text_written 1024 to_name fits.1)))
arguments_written (Link file dir name) typed fits = behind (opaque file.0) _ (handle_written file typed.0 tt) (behind (opaque dir.0) _ (handle_written dir typed.1 tt) (text_written 1024 name fits))
arguments_written (SymLink dir name path set) typed fits = behind (opaque dir.0) _ (handle_written dir typed.0 tt) (behind (opaque_var name) _ (text_written 1024 name fits.0) (behind (opaque_var path) _ (text_written 1024 path fits.1) (sattr_written set typed.1 tt)))
arguments_written (MakeDir dir name set) typed fits = behind (opaque dir.0) _ (handle_written dir typed.0 tt) (behind (opaque_var name) _ (text_written 1024 name fits) (sattr_written set typed.1 tt))
arguments_written (RemoveDir dir name) typed fits = behind (opaque dir.0) _ (handle_written dir typed tt) (text_written 1024 name fits)
arguments_written (ReadDir dir cookie count) typed fits = behind (opaque dir.0) _ (handle_written dir typed.0 tt) (behind (word cookie) _ ((typed.1, refl)) ((typed.2, refl)))
arguments_written (StatFs file) typed fits = handle_written file typed tt
