pub mod NotedOrRefused
