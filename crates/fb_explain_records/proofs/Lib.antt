mod RecordsGoOn
mod ObjectsEnd
